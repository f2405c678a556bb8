use Rattle.sand_fronts.proofs.Common.{ℕ, ◌≡◌, ◌<◌, vec_len, vec_capacity, missing, number, tiles, on_tiles, tile_at}
use Rattle.sand_fronts.proofs.board.all_outside.Given as goal

abbrev pub invariant-loop-k : goal.invariant-loop-k
invariant-loop-k l = record {
  made : vec_len l.all ≡ l.k;
  room : vec_capacity l.all ≡ tiles l.fn.shape;
  each : (k : ℕ) → k < l.k → (p : ℕ) → p < 64
      → number (tile_at l.all.items k) p ≡ on_tiles l.fn.shape (missing l.fn.shape) k p;
}
