use Rattle.sand_shared.proofs.Common.{◌+◌, ◌%◌, ◌^◌, arith, all_places}
use Rattle.sand_shared.proofs.EventsInARow.{places_row}
use Rattle.sand_shared.proofs.StepsOnWords.{asks}
use Rattle.sand_shared.proofs.steps.Words.place.Goals as goal

pub fetch_add-requires : goal.fetch_add-requires
fetch_add-requires g c =
    let inside = c.requires.site in
    let i = c.args.site in
    let k = c.args.amount in
    asks c.self.invariant c.self.view_is c.requires.seat (all_places _ i k)
    (i + 2) (λ n. (n + k) % 2 ^ 64) (omega arith) c.requires.picked
    (places_row _ _ i k _ _ c.requires.some c.requires.hand inside)
