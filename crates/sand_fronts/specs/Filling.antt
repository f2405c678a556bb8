-- Tiles filled with a number for each site, which a function of the column and the row returns.
use Rattle.std.specs.Prelude.{ℕ, ◌≡◌, ◌+◌, ◌-◌, ◌*◌, ◌/◌, ◌%◌, ◌<◌, ◌≤◌}
use Rattle.sand_model.specs.Grid.{Grid}
use Rattle.sand_tiles.specs.declared.tile.Tile.{Tile}
use Rattle.sand_tiles.specs.Places.{number}
use Rattle.sand_fronts.specs.declared.reach.Spot.{Spot}
use Rattle.sand_fronts.specs.Tiling.{pitch, on_tiles}

-- the function may be called at each site, and returns at most 7 there
pub record AtSites (g : Grid) (pre : Spot → Type 0) (post : Spot → ℕ → Type 0) : Type 0 where
  pub may : (s : Spot) → s.row < g.height → s.column < g.width → pre s
  pub bound : (s : Spot) (n : ℕ) → s.row < g.height → s.column < g.width → post s n → n ≤ 7

-- it returns the numbers h
abbrev pub Tells : Grid → (Spot → ℕ → Type 0) → (ℕ → ℕ) → Type 0
Tells g post h =
    (s : Spot) (n : ℕ) → s.row < g.height → s.column < g.width → post s n → n ≡ h (s.row * g.width + s.column)

-- tile k has the numbers of its sites
pub record IsFilled (g : Grid) (post : Spot → ℕ → Type 0) (k : ℕ) (t : Tile) : Type 0 where
  pub clear : t.wave ≡ 0
  pub each : (h : ℕ → ℕ) → Tells g post h → (p : ℕ) → p < 64 → number t p ≡ on_tiles g h k p

-- each place of tile k is a site with four neighbours
pub record IsInner (g : Grid) (k : ℕ) : Type 0 where
  pub above : 3 ≤ k / pitch g
  pub before : 2 ≤ k % pitch g
  pub below : (k / pitch g - 1) * 8 < g.height
  pub after : k % pitch g * 8 < g.width
