-- Numbers on tiles, read eight sites at a time: those of a row of a tile, or fewer at the end of the grid's row.
use Rattle.std.specs.Prelude.{ℕ, List, ◌≡◌, ◌+◌, ◌*◌, ◌%◌, ◌<◌, ◌≤◌, length, slice_index}
use Rattle.sand_model.specs.Grid.{Grid}
use Rattle.sand_fronts.specs.declared.reach.Spot.{Spot}

-- the first site of a row of a tile
pub record IsFirstOfEight (g : Grid) (s : Spot) : Type 0 where
  pub row : s.row < g.height
  pub column : s.column < g.width
  pub first : s.column % 8 ≡ 0

-- the list r has the numbers v of the eight sites from s on, as far as the row goes
abbrev pub AreOfEight : Grid → Spot → (ℕ → ℕ) → List ℕ → Type 0
AreOfEight g s v r =
    (c : ℕ) → c < 8 → s.column + c < g.width → slice_index r c ≡ v (s.row * g.width + (s.column + c))

-- a function returns the numbers v
abbrev pub TellsEights : Grid → (Spot → List ℕ → Type 0) → (ℕ → ℕ) → Type 0
TellsEights g post v = (s : Spot) (r : List ℕ) → IsFirstOfEight g s → post s r → AreOfEight g s v r

-- the numbers v are added to the entries of a list from `first` up to `end`
pub record AddsBetween (first end : ℕ) (v : ℕ → ℕ) (old new : List ℕ) : Type 0 where
  pub len : length new ≡ length old
  pub added : (j : ℕ) → first ≤ j → j < end → slice_index new j ≡ slice_index old j + v j
  pub before : (j : ℕ) → j < first → slice_index new j ≡ slice_index old j
  pub after : (j : ℕ) → end ≤ j → slice_index new j ≡ slice_index old j
