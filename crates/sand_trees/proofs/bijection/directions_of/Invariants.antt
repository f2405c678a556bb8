use Rattle.std.proofs.Common.{ℕ, ◌≡◌, ◌+◌, ◌<◌, length, slice_index}
use Rattle.sand_trees.specs.Trees.{edges_below, edges_passed, depths_around}
use Rattle.sand_trees.proofs.bijection.directions_of.Given as goal

abbrev pub invariant-loop-site : goal.invariant-loop-site
invariant-loop-site l = record {
  len : length l.directions.items ≡ l.site;
  each : (k : ℕ) → k < l.site → (slice_index l.directions.items k < 4)
      × (slice_index (depths_around l.lattice (slice_index l.depths) k) (slice_index l.directions.items k) + 1 ≡ slice_index l.depths k)
      × (slice_index l.heights k + edges_below l.lattice (slice_index l.depths) k (slice_index l.depths k)
      ≡ 4 + edges_passed l.lattice (slice_index l.depths) k (slice_index l.directions.items k));
}
