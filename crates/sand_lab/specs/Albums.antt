-- The places of an album, by the names of their cells, and what a note of a place knows.
use Rattle.std.specs.Prelude.{ℕ, ◌≡◌, List, map, slice_get, Some}
use Rattle.std.specs.declared.alloc.Global.{Global}
use Rattle.once_cell.specs.Once.{cell_name}
use Rattle.sand_shared.specs.Record.{RecordView}

abbrev pub names_of : List (Global × ℕ) → List ℕ
names_of cells = map cell_name cells

-- this cell is the album's place k
abbrev pub IsPlace : List ℕ → ℕ → ℕ → Type 0
IsPlace album k name = slice_get album k ≡ Some name

-- a picture: the epoch, and its record
pub record PictureView : Type 0 where
  pub epoch : ℕ
  pub closed : RecordView
