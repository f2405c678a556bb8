use Rattle.sand_shared.proofs.Common.{[], ◌∷◌, ◌+◌, ◌%◌, ◌^◌, arith, deliver}
use Rattle.sand_shared.proofs.HandAfterPlacing.{first_counts}
use Rattle.sand_shared.proofs.StepsAreEvents.{delivers}
use Rattle.sand_shared.proofs.StepsOnWords.{asks}
use Rattle.sand_shared.proofs.steps.Words.deliver.Goals as goal

pub fetch_add-requires : goal.fetch_add-requires
fetch_add-requires g c =
    let inside = c.requires.site in
    let i = c.args.site in
    let k = c.args.times in
    asks c.self.invariant c.self.view_is c.requires.seat (deliver _ i k ∷ [])
    (i + 2) (λ n. (n + k) % 2 ^ 64) (omega arith) c.requires.picked
    (delivers _ _ i k _ _ inside (first_counts i k _ c.requires.hand))
