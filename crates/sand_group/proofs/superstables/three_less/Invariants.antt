use Rattle.std.proofs.Common.{ℕ, ◌≡◌, ◌+◌, ◌<◌, ◌≤◌, All, length, slice_index}
use Rattle.sand_group.proofs.superstables.three_less.Given as goal

abbrev pub invariant-loop-height : goal.invariant-loop-height
invariant-loop-height l = record {
  len : length l.rests.items ≡ l.height-index;
  low : All (λ h. h ≤ 3) l.rests.items;
  rests : (k : ℕ) → k < l.height-index → slice_index l.rests.items k + slice_index l.heights k ≡ 3;
}
