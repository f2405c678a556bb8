use Rattle.sand_group.proofs.Common.{ℕ, ◌≡◌, ◌+◌, ◌<◌, length, slice_index, missing}
use Rattle.sand_group.proofs.burning.neighbour_counts.Given as goal

abbrev pub invariant-loop-site : goal.invariant-loop-site
invariant-loop-site l = record {
  len : length l.counts.items ≡ l.site;
  counts : (k : ℕ) → k < l.site → slice_index l.counts.items k + missing l.lattice k ≡ 4;
}
