-- To subtract is to add 2^64 - 4k modulo 2^64. The word has at least the 4k found before, as only this pass takes
-- grains from it (`unloads`).
use Rattle.sand_shared.proofs.Common.{[], ◌∷◌, ◌+◌, ◌-◌, ◌*◌, ◌%◌, ◌^◌, arith, unload}
use Rattle.sand_shared.proofs.StepsAreEvents.{unloads}
use Rattle.sand_shared.proofs.StepsOnWords.{asks}
use Rattle.sand_shared.proofs.steps.Words.unload.Goals as goal

pub fetch_sub-requires : goal.fetch_sub-requires
fetch_sub-requires g c =
    let inside = c.requires.site in
    let i = c.args.site in
    let k = c.args.times in
    asks c.self.invariant c.self.view_is c.requires.seat (unload _ i k ∷ [])
    (i + 2) (λ n. (n + (2 ^ 64 - 4 * k)) % 2 ^ 64) (omega arith) c.requires.picked
    (unloads _ _ i k _ _ inside c.requires.own.0 c.requires.own.1 c.requires.there)
