use Rattle.sand_group.proofs.OperationsSettle.{once_settled, equivalent_is_settled, represents_itself, equivalents_add_up}
use Rattle.sand_group.proofs.laws.equivalents_add_up.Goals as goal

pub returns : goal.returns
returns c = record {
  settled = λ g s e identity. once_settled g _ _ (λ u t done.
      once_settled g _ _ (λ v r again. equivalent_is_settled g s u t e v r done identity again));
  itself = represents_itself;
  sum = equivalents_add_up;
}
