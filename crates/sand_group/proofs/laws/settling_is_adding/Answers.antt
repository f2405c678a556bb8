use Rattle.sand_group.proofs.OperationsSettle.{once_settled, some_surplus, sum_is_settled, identity_is_settled, inverse_is_settled}
use Rattle.sand_group.proofs.laws.settling_is_adding.Goals as goal

pub returns : goal.returns
returns c = record {
  sum = λ g a b ra rb. once_settled g _ _ (λ u t. sum_is_settled g a b u t ra);
  surplus = some_surplus;
  identity = λ g d surplus. once_settled g d _ (λ u t. identity_is_settled g d u t surplus);
  inverse = λ g a d recurrent surplus. once_settled g _ _ (λ u t. inverse_is_settled g a d u t recurrent surplus);
}
