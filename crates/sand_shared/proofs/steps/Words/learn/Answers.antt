use Rattle.std.proofs.Common.{[], arith}
use Rattle.sand_shared.proofs.StepsAreEvents.{learns}
use Rattle.sand_shared.proofs.StepsOnWords.{asks}
use Rattle.sand_shared.proofs.steps.Words.learn.Goals as goal

pub load-requires : goal.load-requires
load-requires g c =
    asks c.self.invariant c.self.view_is c.requires.seat [] 0 (λ n. n) (omega arith) c.requires.picked (learns _ _ _ _)
