use Rattle.std.proofs.Common.{ℕ, ◌≡◌, ◌+◌, ◌*◌, ◌<◌, ◌≤◌, All, length, slice_index}
use Rattle.sand_group.proofs.reaching.lifted.Given as goal

abbrev pub invariant-loop-site : goal.invariant-loop-site
invariant-loop-site l = record {
  len : length l.heights.items ≡ l.site;
  low : All (λ h. h ≤ 18) l.heights.items;
  each : (k : ℕ) → k < l.site
      → slice_index l.heights.items k + slice_index l.minus k + 2 * slice_index l.full k
      ≡ slice_index l.plus k + 12 + l.lift;
}
