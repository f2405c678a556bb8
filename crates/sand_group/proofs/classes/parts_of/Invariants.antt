use Rattle.sand_group.proofs.Common.{ℕ, ◌≡◌, ◌+◌, ◌<◌, pos, ◌-ℤ◌, length, sum, take, slice_index, integer_at, whole_grains}
use Rattle.sand_group.proofs.classes.parts_of.Given as goal

abbrev pub invariant-loop-height : goal.invariant-loop-height
invariant-loop-height l = record {
  above_each : length l.above.items ≡ l.height-index;
  below_each : length l.below.items ≡ l.height-index;
  difference : (k : ℕ) → k < l.height-index
      → integer_at l.heights k ≡ pos (slice_index l.above.items k) -ℤ pos (slice_index l.below.items k);
  grains : sum l.above.items + sum l.below.items ≡ whole_grains (take l.height-index l.heights);
}
