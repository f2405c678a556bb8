-- How far a drop has reached, in columns and rows.
use Rattle.std.specs.Prelude.{ℕ, ◌≡◌, ◌+◌, ◌-◌, ◌*◌, ◌/◌, ◌%◌, ◌<◌, ◌≤◌, if◌then◌else◌, min}
use Rattle.std.specs.Int.{abs_diff}
use Rattle.sand_model.specs.Grid.{Grid, joins, column, row}
use Rattle.sand_tiles.specs.Places.{bit}
use Rattle.sand_fronts.specs.Tiling.{pitch}
use Rattle.sand_fronts.specs.declared.reach.Spot.{Spot}

-- the distance from a spot to a column and a row; on a cylinder, the shorter way around
abbrev pub distance_between : Grid → Spot → ℕ → ℕ → ℕ
distance_between g s x y =
    (if joins g.edge then min (abs_diff s.column x) (g.width - abs_diff s.column x) else abs_diff s.column x)
    + abs_diff s.row y

-- the same for a place of a tile
abbrev pub distance_within : Grid → Spot → Spot → ℕ → ℕ
distance_within g s corner p = distance_between g s (corner.column + p % 8) (corner.row + p / 8)

abbrev pub spot_of : Grid → ℕ → Spot
spot_of g j = record { column = column g j; row = row g j }

abbrev pub corner_of : Grid → ℕ → Spot
corner_of g k = record { column = (k % pitch g - 1) * 8; row = (k / pitch g - 2) * 8 }

-- a place of a set is at this distance
pub record HasPlaceAt (g : Grid) (s corner : Spot) (set d : ℕ) : Type 0 where
  pub place : ℕ
  pub low : place < 64
  pub is : bit set place ≡ 1
  pub there : distance_within g s corner place ≡ d

-- far is the greatest of a reach and the distances of the places of a set
pub record IsReachedFrom (g : Grid) (s corner : Spot) (set reach far : ℕ) : Type 0 where
  pub grows : reach ≤ far
  pub within : (p : ℕ) → p < 64 → bit set p ≡ 1 → distance_within g s corner p ≤ far
  pub reached : reach < far → HasPlaceAt g s corner set far

-- reach is the greatest distance of a place of any set, or 0 if there is none
pub record IsReachedIn (g : Grid) (s : Spot) (words : ℕ → ℕ) (reach : ℕ) : Type 0 where
  pub within : (m p : ℕ) → p < 64 → bit (words m) p ≡ 1 → distance_within g s (corner_of g m) p ≤ reach
  pub reached : 0 < reach → (m : ℕ) × HasPlaceAt g s (corner_of g m) (words m) reach
