-- What the exports do that make recurrent piles.
use Rattle.std.specs.Prelude.{ℕ, ◌≡◌, ◌⊎◌, List, length, Result, Ok, Err}
use Rattle.sand_model.specs.Grid.{Grid, sites}
use Rattle.sand_model.specs.Integers.{whole}
use Rattle.sand_model.specs.Piles.{PileView, height_of}
use Rattle.sand_group.specs.Faults.{IsRefusal}
use Rattle.sand_group.specs.Group.{IsIdentity, Represents, IsSum, IsInverse, IsMultiple}
use Rattle.sand_group.specs.Recurrence.{IsRecurrent}
use Rattle.sand_group.specs.declared.faults.GroupFault.{GroupFault}
use Rattle.sand_c.specs.declared.arguments.Sides.{Sides}
use Rattle.sand_c.specs.declared.faults.Fault.{Fault}
use Rattle.sand_c.specs.Arguments.{grid_of, has_length, pile_on, pile_with, ◌>>=◌}
use Rattle.sand_c.specs.Faults.{of_group}

abbrev pub identity_of : Sides → List ℕ → Result Grid Fault
identity_of s heights = grid_of s >>= λ g. has_length (sites g) (length heights) >>= λ _. Ok g

-- the arguments are a grid, and what was written is its identity
pub record IsIdentityOf (meaning : Result Grid Fault) (after : List ℕ) : Type 0 where
  pub grid : Grid
  pub meant : meaning ≡ Ok grid
  pub len : length after ≡ sites grid
  pub identity : IsIdentity grid (height_of (record { grid = grid; heights = after }))

-- the arguments are a pile, and what was written is the recurrent pile equivalent to it
pub record IsRecurrentOf (meaning : Result PileView Fault) (after : List ℕ) : Type 0 where
  pub start : PileView
  pub meant : meaning ≡ Ok start
  pub len : length after ≡ sites start.grid
  pub represents : Represents start.grid (whole (height_of start))
      (height_of (record { grid = start.grid; heights = after }))

-- a pile is refused with this fault, or memory runs out
pub record IsUnfit (pile : PileView) (fault : Fault) : Type 0 where
  pub why : GroupFault
  pub is : fault ≡ of_group why
  pub refusal : IsRefusal pile why

-- a call fails: its arguments have a fault, or the pile is not recurrent, or memory runs out
abbrev pub ElementFails : Fault → Result PileView Fault → Type 0
ElementFails fault (Err e) = fault ≡ e
ElementFails fault (Ok p) = IsUnfit p fault

-- the arguments are a recurrent pile, and what was written is its inverse
pub record IsInverting (meaning : Result PileView Fault) (after : List ℕ) : Type 0 where
  pub pile : PileView
  pub meant : meaning ≡ Ok pile
  pub recurrent : IsRecurrent pile.grid (height_of pile)
  pub len : length after ≡ sites pile.grid
  pub inverse : IsInverse pile.grid (height_of pile) (height_of (record { grid = pile.grid; heights = after }))

-- the arguments are a recurrent pile, and what was written is its n-fold sum
pub record IsMultiplying (meaning : Result PileView Fault) (n : ℕ) (after : List ℕ) : Type 0 where
  pub pile : PileView
  pub meant : meaning ≡ Ok pile
  pub recurrent : IsRecurrent pile.grid (height_of pile)
  pub len : length after ≡ sites pile.grid
  pub multiple : IsMultiple pile.grid n (height_of pile) (height_of (record { grid = pile.grid; heights = after }))

-- the piles in the arguments, both on one grid
abbrev pub adding_of : Sides → List ℕ → List ℕ → Result (PileView × PileView) Fault
adding_of s heights others =
    pile_with s heights (length others) >>= λ p. pile_on p.grid others >>= λ q. Ok (p, q)

-- a sum fails: its arguments have a fault, or the first pile is not recurrent, or the second is not, or memory runs out
abbrev pub AddFails : Fault → Result (PileView × PileView) Fault → Type 0
AddFails fault (Err e) = fault ≡ e
AddFails fault (Ok (p, q)) = IsUnfit p fault ⊎ (IsRecurrent p.grid (height_of p) × IsUnfit q fault)

-- the arguments are two recurrent piles, and what was written is their sum
pub record IsAdding (meaning : Result (PileView × PileView) Fault) (after : List ℕ) : Type 0 where
  pub first : PileView
  pub second : PileView
  pub meant : meaning ≡ Ok (first, second)
  pub first_recurrent : IsRecurrent first.grid (height_of first)
  pub second_recurrent : IsRecurrent second.grid (height_of second)
  pub len : length after ≡ sites first.grid
  pub sum : IsSum first.grid (height_of first) (height_of second)
      (height_of (record { grid = first.grid; heights = after }))
