-- A stable pile on tiles, and the result of dropping a grain on it.
use Rattle.std.specs.Prelude.{ℕ, List, ◌≡◌, ◌+◌, ◌-◌, ◌≤◌, length, map, slice_index}
use Rattle.std.specs.List.{range_with_len}
use Rattle.sand_model.specs.Grid.{Grid, sites}
use Rattle.sand_model.specs.Sand.{IsSettled, one_at}
use Rattle.sand_fronts.specs.declared.avalanche.Avalanche.{Avalanche}
use Rattle.sand_fronts.specs.declared.board.Board.{Board}
use Rattle.sand_fronts.specs.declared.sand.Sand.{Sand}
use Rattle.sand_fronts.specs.declared.counts.Counts.{Counts}
use Rattle.sand_fronts.specs.Waves.{AreAllOpen}
use Rattle.sand_fronts.specs.Drops.{heights_on, counted_on, AreQuiet}
use Rattle.sand_fronts.specs.Avalanches.{IsAvalanche}
use Rattle.sand_fronts.specs.Boards.{free_of, tiles_of, counts_of, marks_of, IsBoard, IsSand, AreCounts, CountsSites}

-- the state between two drops: all sites are free, none is due, and none is marked
pub record IsTiledPile (b : Board) (s : Sand) (c : Counts) : Type 0 where
  pub board : IsBoard b
  pub all_open : AreAllOpen b.shape (free_of b)
  pub sand : IsSand b.shape s
  pub quiet : AreQuiet (tiles_of s)
  pub counts : AreCounts b.shape c
  pub at_sites : CountsSites b.shape c
  pub unmarked : (m : ℕ) → marks_of c m ≡ 0

-- what contracts see of a stable pile on tiles: its heights, and how often each site has toppled, by site
pub record TiledView : Type 0 where
  pub grid : Grid
  pub heights : List ℕ
  pub times : List ℕ

-- the list of f at all sites
unfoldable pub by_site : Grid → (ℕ → ℕ) → List ℕ
by_site g f = map f (range_with_len 0 (sites g))

abbrev pub tiled_view : Grid → Sand → Counts → TiledView
tiled_view g s c = record {
  grid = g;
  heights = by_site g (heights_on g (tiles_of s));
  times = by_site g (counted_on g (counts_of c));
}

pub record IsTiledView (v : TiledView) : Type 0 where
  pub heights_each : length v.heights ≡ sites v.grid
  pub times_each : length v.times ≡ sites v.grid

-- how often each site topples from one pile on tiles to another
abbrev pub toppled_between : TiledView → TiledView → ℕ → ℕ
toppled_between v w j = slice_index w.times j - slice_index v.times j

-- a grain dropped at a site, and the topplings that follow, lead from v to w, and this is its avalanche
pub record HasDroppedOnTiles (v : TiledView) (site : ℕ) (a : Avalanche) (w : TiledView) : Type 0 where
  pub grid : w.grid ≡ v.grid
  pub by_site : IsTiledView w
  pub never_falls : (j : ℕ) → slice_index v.times j ≤ slice_index w.times j
  pub settled : IsSettled v.grid (λ j. slice_index v.heights j + one_at site j) (toppled_between v w)
      (slice_index w.heights)
  pub avalanche : IsAvalanche v.grid site (toppled_between v w) a
