use Rattle.sand_fronts.proofs.Common.{ℕ, ◌≡◌, ◌<◌, vec_len, vec_capacity, tiles, IsBeside, beside_at}
use Rattle.sand_fronts.proofs.sides.all_sides.Given as goal

abbrev pub invariant-loop-k : goal.invariant-loop-k
invariant-loop-k l = record {
  made : vec_len l.all ≡ l.k;
  room : vec_capacity l.all ≡ tiles l.fn.shape;
  each : (k : ℕ) → k < l.k → IsBeside l.fn.shape k (beside_at l.all.items k);
}
