-- The parts of a pile on tiles: the board, the sand on it, and the counts of topplings.
use Rattle.std.specs.Prelude.{ℕ, List, ◌≡◌, ◌≢◌, ◌+◌, ◌<◌, ◌≤◌, length, slice_index, vec_capacity}
use Rattle.sand_model.specs.Grid.{Grid, sites}
use Rattle.sand_model.specs.Sand.{IsSettled}
use Rattle.sand_model.specs.IndexLists.{Joins}
use Rattle.sand_tiles.specs.declared.tile.Tile.{Tile}
use Rattle.sand_tiles.specs.Places.{bit}
use Rattle.sand_tiles.specs.Counts.{Count, counted, IsCount}
use Rattle.sand_fronts.specs.declared.board.Board.{Board}
use Rattle.sand_fronts.specs.declared.sand.Sand.{Sand}
use Rattle.sand_fronts.specs.declared.counts.Counts.{Counts}
use Rattle.sand_fronts.specs.Tiling.{tiles, on_tiles}
use Rattle.sand_fronts.specs.TileLists.{IsClear, waits}
use Rattle.sand_fronts.specs.Waves.{tile_at, AreBeside, Gains}
use Rattle.sand_fronts.specs.Counting.{count_at, with_wave}
use Rattle.sand_fronts.specs.Drops.{heights_on, counted_on, grown_on, AreQuiet, AreOutside, AreLossless, flag_at}
use Rattle.sand_fronts.specs.Marking.{AreMarked}

-- the parts by tile, for the lemmas
abbrev pub free_of : Board → ℕ → ℕ
free_of b = slice_index b.free.items

abbrev pub tiles_of : Sand → ℕ → Tile
tiles_of s = tile_at s.tiles.items

abbrev pub counts_of : Counts → ℕ → Count
counts_of c = count_at c.whole.items c.each.items c.spilled.items

abbrev pub marks_of : Counts → ℕ → ℕ
marks_of c = slice_index c.marks.sets

abbrev pub grown : Grid → Counts → Counts → ℕ → ℕ
grown g c d = grown_on g (counts_of c) (counts_of d)

-- a board, whichever places are free
pub record IsBoard (b : Board) : Type 0 where
  pub free_each : length b.free.items ≡ tiles b.shape
  pub beside : AreBeside b.shape b.beside.items
  pub outside_each : length b.outside.items ≡ tiles b.shape
  pub outside : AreOutside b.shape (tile_at b.outside.items)
  pub lossless_each : length b.lossless.items ≡ tiles b.shape
  pub lossless : AreLossless (flag_at b.lossless.items) (tile_at b.outside.items)

-- sand on the tiles of a grid, and a list with room for a wave
pub record IsSand (g : Grid) (s : Sand) : Type 0 where
  pub len : length s.tiles.items ≡ tiles g
  pub room : sites g + tiles g + 8 ≤ s.list.room

pub record AreCounts (g : Grid) (c : Counts) : Type 0 where
  pub whole_each : length c.whole.items ≡ tiles g
  pub len : length c.each.items ≡ tiles g
  pub room : vec_capacity c.spilled ≡ tiles g
  pub marks_each : length c.marks.sets ≡ tiles g
  pub sound : (m : ℕ) → IsCount (counts_of c m)

-- the tiles get grains, and at most `most` tiles join the list
pub record Gets (free : ℕ → ℕ) (most : ℕ) (gain : ℕ → ℕ → ℕ) (s t : Sand) : Type 0 where
  pub len : length t.tiles.items ≡ length s.tiles.items
  pub gains : Gains free (tiles_of s) (tiles_of t) gain
  pub joins : Joins (length s.tiles.items) most (waits (tiles_of s)) (waits (tiles_of t)) s.list t.list

-- the places that leave the wave are counted and marked, and nothing else changes
pub record AreCounted (ts us : List Tile) (c d : Counts) : Type 0 where
  pub tiles_each : length us ≡ length ts
  pub whole_each : length d.whole.items ≡ length c.whole.items
  pub counts_each : length d.each.items ≡ length c.each.items
  pub room : vec_capacity d.spilled ≡ vec_capacity c.spilled
  pub marks_each : length d.marks.sets ≡ length c.marks.sets
  pub low : (m : ℕ) → (tile_at us m).low ≡ (tile_at ts m).low
  pub high : (m : ℕ) → (tile_at us m).high ≡ (tile_at ts m).high
  pub due : (m : ℕ) → (tile_at us m).due ≡ (tile_at ts m).due
  pub each : (m p : ℕ) → p < 64
      → with_wave (tile_at us) (counts_of d) m p ≡ with_wave (tile_at ts) (counts_of c) m p
  pub sound : ((m : ℕ) → IsCount (counts_of c m)) → (m : ℕ) → IsCount (counts_of d m)
  pub clear : (m : ℕ) → IsClear (tile_at ts m) → IsClear (tile_at us m)
  pub marked : AreMarked (counts_of c) (counts_of d) (marks_of c) (marks_of d)

-- a toppling of each place of a set in tile k is counted
pub record AddsSet (k set : ℕ) (c d : Counts) : Type 0 where
  pub whole_each : length d.whole.items ≡ length c.whole.items
  pub counts_each : length d.each.items ≡ length c.each.items
  pub room : vec_capacity d.spilled ≡ vec_capacity c.spilled
  pub marks : d.marks ≡ c.marks
  pub here : (p : ℕ) → p < 64 → counted (counts_of d k) p ≡ counted (counts_of c k) p + bit set p
  pub others_sound : (m : ℕ) → m ≢ k → IsCount (counts_of c m) → IsCount (counts_of d m)
  pub others : (m p : ℕ) → m ≢ k → p < 64 → counted (counts_of d m) p ≡ counted (counts_of c m) p

-- nothing is counted at a place that is no site
abbrev pub CountsSites : Grid → Counts → Type 0
CountsSites g c = (m p : ℕ) → p < 64 → counted (counts_of c m) p ≡ on_tiles g (counted_on g (counts_of c)) m p

-- the pile has settled from the heights h, by as many topplings as the counts have grown from c to d
pub record HasSettled (g : Grid) (h : ℕ → ℕ) (s : Sand) (c d : Counts) : Type 0 where
  pub sand : IsSand g s
  pub counts : AreCounts g d
  pub quiet : AreQuiet (tiles_of s)
  pub settled : IsSettled g h (grown g c d) (heights_on g (tiles_of s))
  pub counted : (m p : ℕ) → p < 64
      → counted (counts_of d m) p ≡ counted (counts_of c m) p + on_tiles g (grown g c d) m p
