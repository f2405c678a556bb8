use Rattle.sand_shared.proofs.Common.{[], ◌∷◌, arith, count}
use Rattle.sand_shared.proofs.StepsAreEvents.{counts}
use Rattle.sand_shared.proofs.StepsOnWords.{asks}
use Rattle.sand_shared.proofs.steps.Words.count.Goals as goal

pub load-requires : goal.load-requires
load-requires g c =
    asks c.self.invariant c.self.view_is c.requires.seat (count _ ∷ []) 1 (λ n. n) (omega arith) c.requires.picked
    (counts _ _ _ _)
