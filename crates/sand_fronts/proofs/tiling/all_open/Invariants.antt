use Rattle.sand_fronts.proofs.Common.{ℕ, ◌≡◌, ◌<◌, get_or, vec_len, vec_capacity, bit, tiles, on_tiles}
use Rattle.sand_fronts.proofs.tiling.all_open.Given as goal

abbrev pub invariant-loop-k : goal.invariant-loop-k
invariant-loop-k l = record {
  made : vec_len l.free ≡ l.k;
  room : vec_capacity l.free ≡ tiles l.fn.shape;
  each : (k : ℕ) → k < l.k → (p : ℕ) → p < 64 → bit (get_or l.free.items k 0) p ≡ on_tiles l.fn.shape (λ j. 1) k p;
}
