use Rattle.std.proofs.Common.{arith, ◌∙◌}
use Rattle.sand_shared.proofs.Receipts.{record_of_drops}
use Rattle.sand_race.proofs.race.race.Goals as goal

pub returns-in-Ok : goal.returns-in-Ok
returns-in-Ok g c =
    let closed = c.in-Ok.ensures.closed in
    let start = closed.start ∙ (λ k. (c.in_ok-pile.ensures.terms k).start) in
    record_of_drops c.args.start.now c.in-Ok.record _ closed.one_threads start
    (λ i. grind (arith, closed.by_site i, c.in_ok-whole.ensures.by_site i))
