use Rattle.std.proofs.Common.{ℕ, ◌≡◌, ◌+◌, ◌*◌, ◌<◌, ◌≤◌, All, length, slice_index}
use Rattle.sand_group.proofs.multiplying.combined.Given as goal

abbrev pub invariant-loop-site : goal.invariant-loop-site
invariant-loop-site l = record {
  len : length l.heights.items ≡ l.site;
  low : All (λ h. h ≤ 3 * (l.n + l.m)) l.heights.items;
  each : (k : ℕ) → k < l.site → slice_index l.heights.items k ≡ l.n * slice_index l.a k + l.m * slice_index l.b k;
}
