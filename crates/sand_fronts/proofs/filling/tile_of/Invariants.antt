use Rattle.sand_fronts.proofs.Common.{ℕ, ◌≡◌, ◌+◌, ◌<◌, number, on_tiles, Tells}
use Rattle.sand_fronts.proofs.filling.tile_of.Given as goal

abbrev pub invariant-loop-place : goal.invariant-loop-place
invariant-loop-place g l = record {
  clear : l.tile.wave ≡ 0;
  so_far : (h : ℕ → ℕ) → Tells l.shape (goal.F-post g l.numbers) h
      → (q : ℕ) → q + l.place < 64 → number l.tile q ≡ on_tiles l.shape h l.k (q + l.place);
}
