use Rattle.std.proofs.Common.{ℕ, ◌≡◌, ◌-◌, ◌*◌, ◌<◌, length, slice_index}
use Rattle.sand_group.proofs.group.twice_less.Given as goal

abbrev pub invariant-loop-site : goal.invariant-loop-site
invariant-loop-site l = record {
  len : length l.differences.items ≡ l.site;
  differences : (k : ℕ) → k < l.site
      → slice_index l.differences.items k ≡ 2 * slice_index l.twice k - slice_index l.less k;
}
