-- Lists of waiting tiles.
use Rattle.std.specs.Prelude.{ℕ, Bool, List, ◌≡◌, ◌⊎◌, ◌%◌, ◌^◌, ◌<◌, ◌≤◌, slice_index, nat_lt, ◌&&◌, not, ◌==◌}
use Rattle.sand_tiles.specs.declared.tile.Tile.{Tile}
use Rattle.sand_tiles.specs.Places.{bit}

-- whether any of the 64 places of a tile is due
abbrev pub waits : (ℕ → Tile) → ℕ → Bool
waits τ k = nat_lt 0 ((τ k).due % 2 ^ 64)

-- a test, except that tile k does not pass
abbrev pub but : ℕ → (ℕ → Bool) → ℕ → Bool
but k p m = not (m == k) && p m

-- no site of a tile has toppled in this wave
abbrev pub IsClear : Tile → Type 0
IsClear t = (p : ℕ) → p < 64 → bit t.wave p ≡ 0

-- a number is in a list, from one position to before another
pub record IsListed (list : List ℕ) (from end m : ℕ) : Type 0 where
  pub index : ℕ
  pub low : from ≤ index
  pub high : index < end
  pub is : slice_index list index ≡ m

-- each tile with a site that has toppled in this wave is in a list, from one position to before another
abbrev pub AreListed : List ℕ → ℕ → ℕ → (ℕ → Tile) → Type 0
AreListed list from end τ = (m : ℕ) → IsClear (τ m) ⊎ IsListed list from end m

-- the first tiles of a list are among the first n, and among them is each tile with a site that has toppled
pub record AreKept (n : ℕ) (list : List ℕ) (kept : ℕ) (τ : ℕ → Tile) : Type 0 where
  pub listed : AreListed list 0 kept τ
  pub on_board : (t : ℕ) → t < kept → slice_index list t < n
