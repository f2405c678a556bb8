-- A pile that is not stable but light is settled by the queue: the budget is over 2^54, so nothing is left (`ends`). The settled
-- heights and the odometer determine the rest (`settles`).
use Rattle.sand_settle.proofs.Common.{◌∙◌, ap, refl, replicate, rules, arith, subst, sym, IsSettledRecord}
use Rattle.sand_settle.proofs.OneRecord.{same_parts}
use Rattle.sand_settle.proofs.Records.{Settles, settles, stable_record}
use Rattle.sand_settle.proofs.in_place.settle_in_place.Goals.{In_ok-is_settled}
use Rattle.sand_settle.proofs.in_place.settle_in_place.Goals as goal

settling : (c : In_ok-is_settled) → Settles (record { grid = c.args.shape; heights = c.args.heights.now })
    c.topple_to_rest.new.counts c.topple_to_rest.new.heights
settling c = settles
    (record {
      grid = c.is_light.ensures;
      len = c.requires.heights_each;
      limit = c.requires.limit;
    })
    (c.topple_to_rest.auto.counts ∙ c.requires.odometer_each)
    (c.topple_to_rest.auto.heights ∙ c.requires.heights_each)
    (c.in_ok-is_settled.ensures.settled (c.in_ok-is_settled.ensures.ends (omega arith)))

pub sum_of-topplings-requires : goal.sum_of-topplings-requires
sum_of-topplings-requires c =
    omega (arith, (settling (goal.at.sum_of-topplings-requires c).In_ok-is_settled).few)

pub sum_of-left-requires : goal.sum_of-left-requires
sum_of-left-requires c =
    omega (arith, (settling (goal.at.sum_of-left-requires c).In_ok-is_settled).left, c.requires.limit)

pub overflow_sub-lost : goal.overflow_sub-lost
overflow_sub-lost c = let all = settling (goal.at.overflow_sub-lost c).In_ok-is_settled in
    omega (arith, all.left, c.sum_of-grains.ensures, c.sum_of-left.ensures)

pub returns-then-are_stable : goal.returns-then-are_stable
returns-then-are_stable c =
    let low = c.are_stable.ensures c.if-are_stable.true in
    record {
      settled = stable_record c.args.shape c.args.heights.now c.fill.new.self c.requires.heights_each
          (c.fill.ensures.after (λ y e. e) ∙ ap (λ n. replicate n 0) c.requires.odometer_each)
          (record { low = λ i l. low i (omega (arith, c.requires.heights_each)) });
      heights = search rules;
      odometer = search rules;
    }

pub returns : goal.returns
returns c = record {
  settled = subst (IsSettledRecord c.args.shape _)
      (same_parts refl refl refl (sym c.sum_of-topplings.ensures)
      (omega (arith, c.sum_of-grains.ensures, c.sum_of-left.ensures)))
      (settling (goal.at.returns c).In_ok-is_settled).made;
  heights = search rules;
  odometer = search rules;
}
