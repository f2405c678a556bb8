use Rattle.sand_group.proofs.OperationsSettle.{once_settled, identity_neutral, inverse_cancels}
use Rattle.sand_group.proofs.laws.is_group.Goals as goal

pub returns : goal.returns
returns c = record {
  neutral = λ g d e recurrent identity. once_settled g _ _ (λ u t. identity_neutral g d e u t recurrent identity);
  inverse = λ g d v recurrent inverse. once_settled g _ _ (λ u t. inverse_cancels g d v u t recurrent inverse);
}
