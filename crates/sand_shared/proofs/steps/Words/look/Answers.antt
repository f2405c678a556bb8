use Rattle.sand_shared.proofs.Common.{[], ◌∷◌, ◌+◌, arith, look}
use Rattle.sand_shared.proofs.StepsAreEvents.{looks}
use Rattle.sand_shared.proofs.StepsOnWords.{asks}
use Rattle.sand_shared.proofs.steps.Words.look.Goals as goal

pub load-requires : goal.load-requires
load-requires g c =
    let inside = c.requires.site in
    let i = c.args.site in
    asks c.self.invariant c.self.view_is c.requires.seat
    (look _ i ∷ []) (i + 2) (λ n. n) (omega arith) c.requires.picked
    (looks _ _ i _ _ inside c.requires.own)
