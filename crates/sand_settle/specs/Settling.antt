-- What contracts see of a settled pile, and what makes it the settled record of a pile.
-- Source: chip-firing; the odometer is the least that stabilises (least action).
use Rattle.std.specs.Prelude.{ℕ, ◌≡◌, List, length, slice_index}
use Rattle.sand_model.specs.Grid.{Grid, sites}
use Rattle.sand_model.specs.Sand.{IsSettled, topplings, lost}
use Rattle.sand_model.specs.Piles.{PileView, height_of}

pub record SettledView : Type 0 where
  pub pile : PileView
  pub odometer : List ℕ
  pub topplings : ℕ
  pub lost : ℕ

abbrev pub odometer_of : SettledView → ℕ → ℕ
odometer_of r = slice_index r.odometer

-- the settled record of the heights s: the settled pile, the least odometer, and their sums
pub record IsSettledRecord (g : Grid) (s : ℕ → ℕ) (r : SettledView) : Type 0 where
  pub grid : r.pile.grid ≡ g
  pub heights_each : length r.pile.heights ≡ sites g
  pub odometer_each : length r.odometer ≡ sites g
  pub settled : IsSettled g s (odometer_of r) (height_of r.pile)
  pub all_topplings : r.topplings ≡ topplings g (odometer_of r)
  pub all_lost : r.lost ≡ lost g (odometer_of r)

-- r is the settled record of some heights
abbrev pub IsSomeSettledRecord : SettledView → Type 0
IsSomeSettledRecord r = (s : ℕ → ℕ) × IsSettledRecord r.pile.grid s r
