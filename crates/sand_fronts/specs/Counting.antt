-- What a wave adds to the counts of the tiles.
use Rattle.std.specs.Prelude.{ℕ, List, [], slice_index, slice_index_or, ◌+◌, ◌*◌}
use Rattle.sand_model.specs.Sand.{sum_below}
use Rattle.sand_tiles.specs.declared.tile.Tile.{Tile}
use Rattle.sand_tiles.specs.Places.{bit, number}
use Rattle.sand_tiles.specs.declared.counting.Recent.{Recent}
use Rattle.sand_tiles.specs.Counts.{Count, counted, no_recent}
use Rattle.sand_fronts.specs.Marking.{in_sets}

-- the spilled topplings of a place of a tile: 0 if the tile has no list
abbrev pub spilled_at : List (List ℕ) → ℕ → ℕ → ℕ
spilled_at spilled k p = slice_index (slice_index_or spilled k []) p

-- the count of a tile by its number, and an empty one past the end
abbrev pub count_at : List ℕ → List Recent → List (List ℕ) → ℕ → Count
count_at whole each spilled k = record {
  whole = slice_index whole k;
  recent = slice_index_or each k no_recent;
  spilled = slice_index_or spilled k [];
}

-- the number of places of n tiles that have toppled in this wave
abbrev pub in_wave : ℕ → (ℕ → Tile) → ℕ
in_wave n τ = in_sets n (λ k. (τ k).wave)

-- the sum of numbers over the places of n tiles that have toppled in this wave
abbrev pub over_wave : ℕ → (ℕ → Tile) → (ℕ → Tile) → ℕ
over_wave n ν τ = sum_below n (λ k. sum_below 64 (λ p. number (ν k) p * bit (τ k).wave p))

-- how often a place has toppled, including this wave
abbrev pub with_wave : (ℕ → Tile) → (ℕ → Count) → ℕ → ℕ → ℕ
with_wave τ c k p = counted (c k) p + bit (τ k).wave p
