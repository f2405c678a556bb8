-- The settled heights and the odometer determine the rest (`settles`): the grains that the pile no longer has are
-- lost, and twice the topplings are at most the weight of the start, so their sum fits.
use Rattle.sand_settle.proofs.Common.{◌-◌, ◌∙◌, ap, arith, refl, subst, sum, sym, most_grains_on, PileView, height_of, sum_is_grains, IsSettledRecord, SettledView}
use Rattle.sand_settle.proofs.Drops.{grains_kept}
use Rattle.sand_settle.proofs.OneRecord.{same_parts, some_record}
use Rattle.sand_settle.proofs.Records.{Settles, settles}
use Rattle.sand_settle.proofs.settling.record_of.Goals.{After-grains-before, After-grains}
use Rattle.sand_settle.proofs.settling.record_of.Goals as goal

settling : (c : After-grains-before) → Settles c.args.pile.now c.args.rest.odometer.items c.args.rest.heights.items
settling c = settles c.grains-before.ensures.pile c.requires.odometer_each c.requires.heights_each c.requires.settled

pub from_vec-settled-requires-clause-limit : goal.from_vec-settled-requires-clause-limit
from_vec-settled-requires-clause-limit c =
    let all = settling (goal.at.from_vec-settled-requires-clause-limit c).After-grains-before in
    let limit = ap most_grains_on c.shape.ensures.value in
    omega (arith, all.left, c.grains-before.ensures.pile.limit)

pub overflow_sub-lost : goal.overflow_sub-lost
overflow_sub-lost c =
    let all = settling (goal.at.overflow_sub-lost c).After-grains-before in
    let heights = ap (λ (p : PileView). sum p.heights) c.from_vec-settled.ensures in
    omega (arith, all.left, c.grains-before.ensures.value, c.grains.ensures.value)

-- the record, with the grains lost as the code computes them
made : (c : After-grains) → IsSettledRecord c.args.pile.now.grid (height_of c.args.pile.now) (record {
  pile = c.from_vec-settled.result;
  odometer = c.args.rest.odometer.items;
  topplings = sum c.args.rest.odometer.items;
  lost = c.grains-before.result - c.grains.result;
})
made c =
    let heights = ap (λ (p : PileView). p.heights) c.from_vec-settled.ensures in
    let grid = ap (λ (p : PileView). p.grid) c.from_vec-settled.ensures ∙ c.shape.ensures.value in
    let sums = ap sum heights in
    subst (IsSettledRecord c.args.pile.now.grid (height_of c.args.pile.now))
    (same_parts (sym grid) (sym heights) refl refl
    (omega (arith, c.grains-before.ensures.value, c.grains.ensures.value)))
    (settles c.grains-before.ensures.pile c.requires.odometer_each c.requires.heights_each c.requires.settled).made

pub of_parts-requires-clause-settled : goal.of_parts-requires-clause-settled
of_parts-requires-clause-settled c = some_record (made (goal.at.of_parts-requires-clause-settled c).After-grains)

pub of_parts-requires-clause-fits : goal.of_parts-requires-clause-fits
of_parts-requires-clause-fits c =
    let all = settling (goal.at.of_parts-requires-clause-fits c).After-grains-before in omega (arith, all.few)

pub returns-clause-record : goal.returns-clause-record
returns-clause-record c =
    subst (λ (r : SettledView). IsSettledRecord c.args.pile.now.grid (height_of c.args.pile.now) r)
    (sym c.of_parts.ensures) (made (goal.at.returns-clause-record c).After-grains)

pub returns-clause-kept : goal.returns-clause-kept
returns-clause-kept c =
    let start = c.args.pile.now in
    let kept = grains_kept (returns-clause-record c) in
    omega (arith, sum_is_grains start.grid start.heights c.grains-before.ensures.pile.len)

pub returns-clause-half : goal.returns-clause-half
returns-clause-half c =
    let all = settling (goal.at.returns-clause-half c).After-grains-before in
    omega (arith, all.half, ap (λ (r : SettledView). r.topplings) c.of_parts.ensures)

pub returns-clause-bound : goal.returns-clause-bound
returns-clause-bound c =
    let all = settling (goal.at.returns-clause-bound c).After-grains-before in
    omega (arith, all.few, ap (λ (r : SettledView). r.topplings) c.of_parts.ensures)
