-- What the exports on integer heights of any sign do.
use Rattle.std.specs.Prelude.{ℕ, ℤ, pos, ◌≡◌, ◌<◌, ◌⊎◌, nat_lt, if◌then◌else◌, ◌==◌, List, length, Result, Ok, Err}
use Rattle.sand_model.specs.Grid.{Grid, sites}
use Rattle.sand_model.specs.Integers.{IsEquivalent}
use Rattle.sand_model.specs.Piles.{most_grains_on}
use Rattle.sand_group.specs.Classes.{integer_at, whole_grains, IsFired, IsSuperstable}
use Rattle.sand_group.specs.Recurrence.{IsRecurrent}
use Rattle.sand_c.specs.declared.arguments.Sides.{Sides}
use Rattle.sand_c.specs.declared.faults.Fault.{Fault}
use Rattle.sand_c.specs.declared.faults.Fault.TheVariants.{Length, TooManyGrains}
use Rattle.sand_c.specs.Arguments.{grid_of, ◌>>=◌}

-- the grid, if there is one height for each site, and the absolute values are within the limit
abbrev pub class_on : Grid → List ℤ → Result Grid Fault
class_on g heights = if length heights == sites g
    then (if nat_lt (most_grains_on g) (whole_grains heights) then Err TooManyGrains else Ok g)
    else Err Length

-- the grid of these integer heights
abbrev pub class_of : Sides → List ℤ → Result Grid Fault
class_of s heights = grid_of s >>= λ g. class_on g heights

-- the same, if a firing vector of this length has a number for each site, or none
abbrev pub firing_on : Grid → List ℤ → ℕ → Result Grid Fault
firing_on g heights n =
    if n == 0 then class_on g heights else (if n == sites g then class_on g heights else Err Length)

abbrev pub firing_of : Sides → List ℤ → ℕ → Result Grid Fault
firing_of s heights n = grid_of s >>= λ g. firing_on g heights n

-- the arguments are integer heights, and what was written is the recurrent pile of their class, and the firing vector
-- that leads there, unless its array has no entry
pub record IsRecurrentOfClass (meaning : Result Grid Fault) (before after firing : List ℤ) : Type 0 where
  pub grid : Grid
  pub meant : meaning ≡ Ok grid
  pub len : length after ≡ sites grid
  pub pile : ℕ → ℕ
  pub recurrent : IsRecurrent grid pile
  pub heights_are : (i : ℕ) → i < sites grid → integer_at after i ≡ pos (pile i)
  pub equivalent : IsEquivalent grid (integer_at after) (integer_at before)
  pub firing_each : (length firing ≡ 0) ⊎ (length firing ≡ sites grid)
  pub fired : length firing ≡ sites grid → IsFired grid (integer_at before) (integer_at firing) (integer_at after)

-- the arguments are integer heights, and what was written is the superstable heights of their class
pub record IsSuperstableOfClass (meaning : Result Grid Fault) (before after : List ℤ) : Type 0 where
  pub grid : Grid
  pub meant : meaning ≡ Ok grid
  pub len : length after ≡ sites grid
  pub superstable : IsSuperstable grid (integer_at after)
  pub equivalent : IsEquivalent grid (integer_at after) (integer_at before)
