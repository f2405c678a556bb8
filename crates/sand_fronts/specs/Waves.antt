-- A wave on tiles: from a dropped site that has 4, each site topples at most once; the dropped site is held after its
-- toppling.
use Rattle.std.specs.Prelude.{ℕ, List, length, slice_index_or, slice_set, ◌≡◌, ◌≢◌, ◌+◌, ◌-◌, ◌*◌, ◌%◌, ◌^◌, ◌<◌, ◌≤◌, if◌then◌else◌, ◌==◌}
use Rattle.sand_model.specs.Grid.{Grid, IsGrid, sites}
use Rattle.sand_model.specs.declared.shape.Edge.TheVariants.{Open}
use Rattle.sand_model.specs.Sand.{flow, one_at}
use Rattle.sand_tiles.specs.declared.tile.Tile.{Tile}
use Rattle.sand_tiles.specs.Places.{bit, height, had, Visits}
use Rattle.sand_fronts.specs.Tiling.{pitch, tiles, tile_of, place_of, on_tiles, over_north, over_south, over_west, over_east, to_west, to_east, shift_west, shift_east}
use Rattle.sand_fronts.specs.Drops.{AreQuiet}
use Rattle.sand_fronts.specs.WaveSizes.{Covers}
use Rattle.sand_fronts.specs.declared.sides.Beside.{Beside}
use Rattle.sand_fronts.specs.declared.board.DropSite.{DropSite}

-- numbers by tile and place, read by site
abbrev pub at_site : Grid → (ℕ → ℕ → ℕ) → ℕ → ℕ
at_site g u j = u (tile_of g j) (place_of g j)

-- how often each site has toppled in this wave
abbrev pub toppled : Grid → (ℕ → Tile) → ℕ → ℕ
toppled g τ = at_site g (λ k p. bit (τ k).wave p)

-- f in one tile, and 0 in the others
unfoldable pub only : ℕ → (ℕ → ℕ) → ℕ → ℕ → ℕ
only k f m p = if m == k then f p else 0

-- the words of the free places: all sites except the held one
abbrev pub AreOpen : Grid → ℕ → (ℕ → ℕ) → Type 0
AreOpen g site free = (k p : ℕ) → p < 64 → bit (free k) p ≡ on_tiles g (λ j. 1 - one_at site j) k p

abbrev pub AreAllOpen : Grid → (ℕ → ℕ) → Type 0
AreAllOpen g free = (k p : ℕ) → p < 64 → bit (free k) p ≡ on_tiles g (λ j. 1) k p

-- the state of a wave that began with the heights h
pub record IsWave (g : Grid) (site : ℕ) (h : ℕ → ℕ) (τ : ℕ → Tile) : Type 0 where
  pub inside : (k p : ℕ) → p < 64 → bit (τ k).wave p ≡ on_tiles g (toppled g τ) k p
  pub at_open : (j : ℕ) → j < sites g → j ≢ site → had (τ (tile_of g j)) (place_of g j) ≡ h j + flow g (toppled g τ) j
  pub at_held : height (τ (tile_of g site)) (place_of g site) ≡ (h site + flow g (toppled g τ) site) % 4
  pub needed : (w : ℕ → ℕ) → Covers g site h w → (j : ℕ) → j < sites g → toppled g τ j ≤ w j

-- a tile by its number, and an empty one past the end
abbrev pub tile_at : List Tile → ℕ → Tile
tile_at tiles k = slice_index_or tiles k (record { low = 0; high = 0; due = 0; wave = 0 })

-- only free places are due
abbrev pub AreDueFree : (ℕ → ℕ) → (ℕ → Tile) → Type 0
AreDueFree free τ = (m p : ℕ) → p < 64 → bit (τ m).due p ≤ bit (free m) p

abbrev pub IsNoneDue : (ℕ → Tile) → Type 0
IsNoneDue τ = (m p : ℕ) → p < 64 → bit (τ m).due p ≡ 0

-- each place gains `gain` grains: exactly if it is free and has had at most 7 with them, and always modulo 4
pub record Gains (free : ℕ → ℕ) (τ σ : ℕ → Tile) (gain : ℕ → ℕ → ℕ) : Type 0 where
  pub wave : (m p : ℕ) → p < 64 → bit (σ m).wave p ≡ bit (τ m).wave p
  pub due_free : AreDueFree free τ → AreDueFree free σ
  pub each : (m p : ℕ) → p < 64 → bit (free m) p ≡ 1 → had (τ m) p + gain m p ≤ 7
      → had (σ m) p ≡ had (τ m) p + gain m p
  pub modulo : (m p : ℕ) → p < 64 → height (σ m) p ≡ (height (τ m) p + gain m p) % 4

-- the grains of the set `new` that leave its tile, by the tile that they reach
abbrev pub over_rim : Beside → ℕ → ℕ → ℕ → ℕ
over_rim b new m p = only b.north (over_south (bit new)) m p + only b.south (over_north (bit new)) m p
    + only b.west (over_east b.west_shift (bit new)) m p + only b.east (over_west b.east_shift (bit new)) m p

-- the four tiles next to tile k, and how far the columns shift
pub record IsBeside (g : Grid) (k : ℕ) (b : Beside) : Type 0 where
  pub north : b.north ≡ k - pitch g
  pub south : b.south ≡ k + pitch g
  pub west : b.west ≡ to_west g k
  pub east : b.east ≡ to_east g k
  pub west_shift : b.west_shift ≡ shift_west g k
  pub east_shift : b.east_shift ≡ shift_east g k

-- the same on a grid with open edges, in which a row has `row` tiles
abbrev pub open_beside : ℕ → ℕ → Beside
open_beside row k = record { north = k - row; south = k + row; west = k - 1; east = k + 1; west_shift = 7; east_shift = 7 }

-- the number of tiles in a row, on a grid with open edges
pub record IsOpenRow (g : Grid) (row : ℕ) : Type 0 where
  pub len : row ≡ pitch g
  pub open_edge : g.edge ≡ Open

-- what a visit makes of a tile, and the places that topple in it
pub record Visited (t : Tile) (free start : ℕ) : Type 0 where
  pub tile : Tile
  pub new : ℕ
  pub visits : Visits t tile free start new
  pub fits : new < 2 ^ 64

-- tile k becomes t
abbrev pub put : ℕ → Tile → (ℕ → Tile) → ℕ → Tile
put k t τ m = if m == k then t else τ m

-- tile k is visited, and the grains that leave it reach the tiles next to it
pub record Steps (τ σ : ℕ → Tile) (free : ℕ → ℕ) (b : Beside) (k start : ℕ) : Type 0 where
  pub visited : Visited (τ k) (free k) start
  pub gains : Gains free (put k visited.tile τ) σ (over_rim b visited.new)

-- two tiles of a list are visited, and the others stay
pub record AreVisited (ts us : List Tile) (j k free free' new new' : ℕ) : Type 0 where
  pub one : Tile
  pub two : Tile
  pub visits : Visits (tile_at ts j) one free 0 new
  pub other_visits : Visits (tile_at ts k) two free' 0 new'
  pub written : us ≡ slice_set (slice_set ts j one) k two

-- two tiles are visited, and only then do the grains that leave them reach the tiles next to them
pub record PairSteps (τ σ : ℕ → Tile) (free : ℕ → ℕ) (b c : Beside) (j k : ℕ) : Type 0 where
  pub one : Visited (τ j) (free j) 0
  pub two : Visited (τ k) (free k) 0
  pub gains : Gains free (put k two.tile (put j one.tile τ)) σ (λ m p. over_rim b one.new m p + over_rim c two.new m p)

abbrev pub beside_at : List Beside → ℕ → Beside
beside_at all k =
    slice_index_or all k (record { north = 0; south = 0; west = 0; east = 0; west_shift = 0; east_shift = 0 })

-- the four tiles are among the first n, and shifts stay within a row
pub record IsOnBoard (n : ℕ) (b : Beside) : Type 0 where
  pub north : b.north < n
  pub south : b.south < n
  pub west : b.west < n
  pub east : b.east < n
  pub west_shift : b.west_shift ≤ 7
  pub east_shift : b.east_shift ≤ 7

-- tile k, which is not in the first row, and its four neighbours
pub record AtTile (g : Grid) (k : ℕ) (b : Beside) : Type 0 where
  pub inside : k < tiles g
  pub below : pitch g ≤ k
  pub each : IsBeside g k b
  pub on_board : IsOnBoard (tiles g) b

-- for the tile of each site its four neighbours
pub record AreBeside (g : Grid) (all : List Beside) : Type 0 where
  pub sides : IsGrid g
  pub fits : tiles g ≤ 2097152
  pub len : length all ≡ tiles g
  pub each : (j : ℕ) → j < sites g → AtTile g (tile_of g j) (beside_at all (tile_of g j))

-- the heights at the start of a wave: the dropped site has 4 more than in the planes
abbrev pub heights_before : Grid → ℕ → (ℕ → Tile) → ℕ → ℕ
heights_before g site τ j = height (τ (tile_of g j)) (place_of g j) + 4 * one_at site j

-- between waves nothing has toppled, nothing is due, and the dropped site is 0 in the planes
pub record AreAtRest (g : Grid) (site : ℕ) (τ : ℕ → Tile) : Type 0 where
  pub quiet : AreQuiet τ
  pub empty : height (τ (tile_of g site)) (place_of g site) ≡ 0

-- a site, and where it is on the tiles
pub record IsDropSite (g : Grid) (d : DropSite) : Type 0 where
  pub inside : d.site < sites g
  pub tile : d.tile ≡ tile_of g d.site
  pub place : d.place ≡ place_of g d.site

-- a wave from the tiles τ, which were at rest, to the tiles σ: the dropped site has toppled, and no site is due
pub record IsWholeWave (g : Grid) (site : ℕ) (τ σ : ℕ → Tile) : Type 0 where
  pub wave : IsWave g site (heights_before g site τ) σ
  pub started : toppled g σ site ≡ 1
  pub none_due : IsNoneDue σ
