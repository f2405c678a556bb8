-- What a drop topples, by tiles and counts.
use Rattle.std.specs.Prelude.{ℕ, Bool, List, true, false, ◌≡◌, ◌-◌, ◌<◌, slice_index_or}
use Rattle.sand_model.specs.Grid.{Grid, missing}
use Rattle.sand_tiles.specs.declared.tile.Tile.{Tile}
use Rattle.sand_tiles.specs.Places.{bit, height, number}
use Rattle.sand_tiles.specs.Counts.{Count, counted}
use Rattle.sand_fronts.specs.Tiling.{tile_of, place_of, on_tiles}
use Rattle.sand_fronts.specs.TileLists.{IsClear}

-- the heights in the planes, by site
abbrev pub heights_on : Grid → (ℕ → Tile) → ℕ → ℕ
heights_on g τ j = height (τ (tile_of g j)) (place_of g j)

abbrev pub counted_on : Grid → (ℕ → Count) → ℕ → ℕ
counted_on g c j = counted (c (tile_of g j)) (place_of g j)

-- the growth of the count of each site
abbrev pub grown_on : Grid → (ℕ → Count) → (ℕ → Count) → ℕ → ℕ
grown_on g c d j = counted_on g d j - counted_on g c j

-- no place is in a wave, and none is due
pub record AreQuiet (τ : ℕ → Tile) : Type 0 where
  pub clear : (m : ℕ) → IsClear (τ m)
  pub none_due : (m p : ℕ) → p < 64 → bit (τ m).due p ≡ 0

-- the numbers on the tiles are the numbers of places around each site outside the grid
abbrev pub AreOutside : Grid → (ℕ → Tile) → Type 0
AreOutside g ν = (k p : ℕ) → p < 64 → number (ν k) p ≡ on_tiles g (missing g) k p

-- the flag of a tile by its number, and false past the end
abbrev pub flag_at : List Bool → ℕ → Bool
flag_at flags k = slice_index_or flags k false

-- no place of a tile with a flag has a number
abbrev pub AreLossless : (ℕ → Bool) → (ℕ → Tile) → Type 0
AreLossless flags ν = (k : ℕ) → flags k ≡ true → (p : ℕ) → p < 64 → number (ν k) p ≡ 0
