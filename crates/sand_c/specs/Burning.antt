-- What `sandpile_burn` does.
use Rattle.std.specs.Prelude.{ℕ, ◌≡◌, ◌⊎◌, ◌≤◌, Bool, true, false, List, take, Result, Ok, Err}
use Rattle.sand_model.specs.Grid.{Grid, sites}
use Rattle.sand_model.specs.Piles.{PileView, height_of}
use Rattle.sand_model.specs.Sand.{IsStable}
use Rattle.sand_group.specs.Recurrence.{IsRecurrent, IsBurningOrder, IsGreatestForbidden}
use Rattle.sand_c.specs.declared.faults.Fault.{Fault}
use Rattle.sand_c.specs.declared.faults.Fault.TheVariants.{Memory, Unstable}

-- these sites are a burning order of a recurrent pile, or the greatest forbidden set of any other
abbrev pub IsFound : Grid → (ℕ → ℕ) → Bool → List ℕ → Type 0
IsFound g s true found = IsRecurrent g s × IsBurningOrder g s found
IsFound g s false found = IsGreatestForbidden g s found

-- the arguments are a stable pile, and burning it found the first `count` places of what was written
pub record IsBurning (meaning : Result PileView Fault) (after : List ℕ) (count : ℕ) (recurrent : Bool) : Type 0 where
  pub pile : PileView
  pub meant : meaning ≡ Ok pile
  pub stable : IsStable pile.grid (height_of pile)
  pub bound : count ≤ sites pile.grid
  pub found : IsFound pile.grid (height_of pile) recurrent (take count after)

-- burning fails: its arguments have a fault, or memory runs out, or the pile is not stable
abbrev pub BurnFails : Fault → Result PileView Fault → Type 0
BurnFails fault (Err e) = fault ≡ e
BurnFails fault (Ok p) = (fault ≡ Memory) ⊎ ((fault ≡ Unstable) × (IsStable p.grid (height_of p) → ⊥))
