-- Of the two parts of a height one is 0 and the other its absolute value (`split_above`, `split_below`): so their
-- difference is the height, and their sum the absolute value.
use Rattle.sand_group.proofs.Common.{◌≡◌, ◌+◌, ◌-◌, rules, ap, pos, ◌-ℤ◌, arith, sum, w64, FitsSigned, unsigned_abs, to_z-of_z, sum_by_more, sum_by_push, integer_at}
use Rattle.sand_group.proofs.IntegerLists.{difference_pushed, split_below, split_above}
use Rattle.sand_group.proofs.classes.parts_of.Goals.{then-height-lt0, else-height-lt0}
use Rattle.sand_group.proofs.classes.parts_of.Goals as goal

-- the parts of the next height, of either sign
next_height : (c : goal.In_ok-push-2)
    → (integer_at c.args.heights.now c.loop-height.height-index
    ≡ pos (c.unsigned_abs-size.result - c.if-height-lt0.debt) -ℤ pos c.if-height-lt0.debt)
    × (c.unsigned_abs-size.result - c.if-height-lt0.debt + c.if-height-lt0.debt
    ≡ unsigned_abs (integer_at c.args.heights.now c.loop-height.height-index))
next_height c =
    let fits : FitsSigned w64 (integer_at c.args.heights.now c.loop-height.height-index) = search rules in
    let size = simp to_z-of_z at c.unsigned_abs-size.ensures.value in
    elim c.if-height-lt0.branch [
      | then-height-lt0 w ↦ split_below _ c.unsigned_abs-size.result c.if-height-lt0.debt
          (simp to_z-of_z at w.if-height-lt0.true) size w.debt-is
      | else-height-lt0 w ↦ split_above _ c.unsigned_abs-size.result c.if-height-lt0.debt
          (simp to_z-of_z at w.if-height-lt0.false) size w.debt-is
    ]

pub loop-height-preserved : goal.loop-height-preserved
loop-height-preserved c =
    let old = c.loop-height.invariant in
    let next = next_height c in
    record {
      above_each = search rules;
      below_each = search rules;
      difference = difference_pushed c.args.heights.now c.loop-height.above.items c.loop-height.below.items
          c.push.new.self.items c.push-in-loop-height.new.self.items _ _ c.loop-height.height-index
          c.in_ok-push.ensures.items c.in_ok-push-2.ensures.items old.above_each old.below_each next.0 old.difference;
      grains = omega (
        arith,
        old.grains,
        next.1,
        ap sum c.in_ok-push.ensures.items,
        ap sum c.in_ok-push-2.ensures.items,
        sum_by_push (λ h. h) c.loop-height.above.items (c.unsigned_abs-size.result - c.if-height-lt0.debt),
        sum_by_push (λ h. h) c.loop-height.below.items c.if-height-lt0.debt,
        sum_by_more unsigned_abs c.args.heights.now c.loop-height.height-index (pos 0) c.loop-height-test.true,
      );
    }
