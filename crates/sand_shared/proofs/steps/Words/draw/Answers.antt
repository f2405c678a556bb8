use Rattle.sand_shared.proofs.Common.{◌+◌, ◌%◌, ◌^◌, arith, length, all_draws}
use Rattle.sand_shared.proofs.EventsInARow.{draws_row}
use Rattle.sand_shared.proofs.StepsOnWords.{asks}
use Rattle.sand_shared.proofs.steps.Words.draw.Goals as goal

pub fetch_add-requires : goal.fetch_add-requires
fetch_add-requires g c =
    let ds = c.args.drops.now in
    asks c.self.invariant c.self.view_is c.requires.seat (all_draws _ ds)
    1 (λ n. (n + length ds) % 2 ^ 64) (omega arith) c.requires.picked
    (draws_row _ _ ds _ _ c.requires.some c.requires.left c.requires.inside)
