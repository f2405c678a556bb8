use Rattle.sand_group.proofs.SettledIsRecurrent.{settled_recurrent}
use Rattle.sand_group.proofs.OperationsSettle.{once_settled, recurrent_from_full, recurrent_plus}
use Rattle.sand_group.proofs.laws.recurrent_from_full.Goals as goal

pub returns : goal.returns
returns c = record {
  exactly = λ g s. (recurrent_from_full g s, λ full. settled_recurrent g full.0 full.1 s full.2);
  stays = λ g a b recurrent. once_settled g _ _ (λ u t. recurrent_plus g a b u t recurrent);
}
