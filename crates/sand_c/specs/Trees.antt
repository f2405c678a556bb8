-- What the calls on burning times and spanning trees do.
use Rattle.std.specs.Prelude.{ℕ, ◌≡◌, ◌⊎◌, List, length, slice_index, Result, Ok, Err}
use Rattle.sand_model.specs.Grid.{Grid, sites}
use Rattle.sand_model.specs.Piles.{PileView, height_of}
use Rattle.sand_model.specs.Sand.{IsStable}
use Rattle.sand_group.specs.BurningTimes.{AreBurningTimes}
use Rattle.sand_group.specs.Recurrence.{IsRecurrent}
use Rattle.sand_trees.specs.Trees.{IsTree, IsSpanningTree, IsPileOfTree}
use Rattle.sand_c.specs.declared.arguments.Sides.{Sides}
use Rattle.sand_c.specs.declared.faults.Fault.{Fault}
use Rattle.sand_c.specs.declared.faults.Fault.TheVariants.{Memory, NotTree}
use Rattle.sand_c.specs.Arguments.{grid_of, has_length, ◌>>=◌}

-- the arguments are a stable pile, and what was written are the steps in which its sites burn
pub record AreTimesOf (meaning : Result PileView Fault) (times : List ℕ) : Type 0 where
  pub pile : PileView
  pub meant : meaning ≡ Ok pile
  pub stable : IsStable pile.grid (height_of pile)
  pub len : length times ≡ sites pile.grid
  pub times_are : AreBurningTimes pile.grid (height_of pile) (slice_index times)

-- the arguments are a recurrent pile, and what was written are the directions of the tree with this pile
pub record IsTreeOf (meaning : Result PileView Fault) (directions : List ℕ) : Type 0 where
  pub pile : PileView
  pub meant : meaning ≡ Ok pile
  pub recurrent : IsRecurrent pile.grid (height_of pile)
  pub len : length directions ≡ sites pile.grid
  pub depth : ℕ → ℕ
  pub tree : IsTree pile.grid (slice_index directions) depth
  pub of_tree : IsPileOfTree pile.grid (slice_index directions) depth (height_of pile)

-- the grid, if there are a direction and a place for a height for each of its sites
abbrev pub directed_of : Sides → ℕ → ℕ → Result Grid Fault
directed_of s directions heights =
    grid_of s >>= λ g. has_length (sites g) directions >>= λ _. has_length (sites g) heights >>= λ _. Ok g

-- the directions are a spanning tree of the grid in the arguments, and what was written is its pile
pub record IsPileOf (meaning : Result Grid Fault) (directions heights : List ℕ) : Type 0 where
  pub grid : Grid
  pub meant : meaning ≡ Ok grid
  pub depth : ℕ → ℕ
  pub tree : IsTree grid (slice_index directions) depth
  pub len : length heights ≡ sites grid
  pub recurrent : IsRecurrent grid (slice_index heights)
  pub of_tree : IsPileOfTree grid (slice_index directions) depth (slice_index heights)

-- a pile is not made: the arguments have a fault, or memory runs out, or the directions are no spanning tree
abbrev pub TreeFails : Fault → Result Grid Fault → List ℕ → Type 0
TreeFails fault (Err e) directions = fault ≡ e
TreeFails fault (Ok g) directions = (fault ≡ Memory) ⊎ ((fault ≡ NotTree) × ¬ IsSpanningTree g (slice_index directions))

-- the arguments are a grid, and what was written is a recurrent pile on it
pub record IsRecurrentOn (meaning : Result Grid Fault) (heights : List ℕ) : Type 0 where
  pub grid : Grid
  pub meant : meaning ≡ Ok grid
  pub len : length heights ≡ sites grid
  pub recurrent : IsRecurrent grid (slice_index heights)
