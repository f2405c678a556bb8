use Rattle.sand_fronts.proofs.Common.{ℕ, ◌≡◌, ◌<◌, vec_len, vec_capacity, tiles, tile_at, IsFilled}
use Rattle.sand_fronts.proofs.filling.tiles_of.Given as goal

abbrev pub invariant-loop-k : goal.invariant-loop-k
invariant-loop-k g l = record {
  made : vec_len l.all ≡ l.k;
  room : vec_capacity l.all ≡ tiles l.shape;
  each : (k : ℕ) → k < l.k → IsFilled l.shape (goal.F-post g l.numbers) k (tile_at l.all.items k);
}
