use Rattle.sand_fronts.proofs.Common.{ℕ, true, ◌≡◌, ◌<◌, length, vec_len, vec_capacity, number, tile_at, flag_at}
use Rattle.sand_fronts.proofs.board.all_lossless.Given as goal

abbrev pub invariant-loop-k : goal.invariant-loop-k
invariant-loop-k l = record {
  made : vec_len l.all ≡ l.k;
  room : vec_capacity l.all ≡ length l.fn.outside;
  each : (k : ℕ) → k < l.k → flag_at l.all.items k ≡ true → (p : ℕ) → p < 64 → number (tile_at l.fn.outside k) p ≡ 0;
}
