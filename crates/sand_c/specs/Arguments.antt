-- The meaning of a call's arguments, or the first fault in them.
use Rattle.std.specs.Prelude.{ℕ, ◌≡◌, ◌⊎◌, Bool, true, false, ◌==◌, nat_lt, if◌then◌else◌, List, length, sum, Result, Ok, Err, IsOk}
use Rattle.sand_model.specs.declared.shape.Edge.{Edge}
use Rattle.sand_model.specs.declared.shape.Edge.TheVariants.{Open, Cylinder}
use Rattle.sand_model.specs.declared.faults.ShapeFault.{ShapeFault}
use Rattle.sand_model.specs.Grid.{Grid, large_grid, sites}
use Rattle.sand_model.specs.Piles.{PileView, most_grains_on}
use Rattle.sand_c.specs.declared.arguments.Sides.{Sides}
use Rattle.sand_c.specs.declared.faults.Fault.{Fault}
use Rattle.sand_c.specs.declared.faults.Fault.TheVariants.{Length, TooManyGrains, Memory}
use Rattle.sand_c.specs.Faults.{number_of, of_shape}

infixl 10 ◌>>=◌
abbrev pub ◌>>=◌ : {A B : Type 0} → Result A Fault → (A → Result B Fault) → Result B Fault
(Ok x) >>= f = f x
(Err e) >>= f = Err e

abbrev pub edge_of : Bool → Edge
edge_of false = Open
edge_of true = Cylinder

abbrev pub shaped : Result Grid ShapeFault → Result Grid Fault
shaped (Ok g) = Ok g
shaped (Err fault) = Err (of_shape fault)

abbrev pub sides_of : ℕ → ℕ → Bool → Sides
sides_of width height cylinder = record { width = width; height = height; cylinder = cylinder }

-- the grid with these sides
abbrev pub grid_of : Sides → Result Grid Fault
grid_of s = shaped (large_grid s.width s.height (edge_of s.cylinder))

-- the most grains of a pile on the grid with these sides
abbrev pub limit_of : Sides → Result ℕ Fault
limit_of s = grid_of s >>= λ g. Ok (most_grains_on g)

-- the length of a slice, if it is the expected one
abbrev pub has_length : ℕ → ℕ → Result ℕ Fault
has_length expected n = if n == expected then Ok n else Err Length

-- the pile with these heights on a grid
abbrev pub pile_on : Grid → List ℕ → Result PileView Fault
pile_on g heights = if length heights == sites g
    then (if nat_lt (most_grains_on g) (sum heights) then Err TooManyGrains else Ok (record { grid = g; heights = heights }))
    else Err Length

-- the pile with these heights on the grid with these sides
abbrev pub pile_of : Sides → List ℕ → Result PileView Fault
pile_of s heights = grid_of s >>= λ g. pile_on g heights

-- the same, if it has `places` sites
abbrev pub pile_with : Sides → List ℕ → ℕ → Result PileView Fault
pile_with s heights places =
    grid_of s >>= λ g. has_length (sites g) (length heights) >>= λ _. has_length (sites g) places >>= λ _. pile_on g heights

-- a call fails with the fault of its arguments; memory runs out only if they have none
abbrev pub Fails : {A : Type 0} → Fault → Result A Fault → Type 0
Fails Memory meaning = IsOk meaning
Fails fault meaning = meaning ≡ Err fault

-- what a call returns: the number of the fault in its arguments; or, if there is none, 0, or 4 if memory runs out
abbrev pub Answers : {A : Type 0} → ℕ → Result A Fault → Type 0
Answers n (Ok x) = (n ≡ 0) ⊎ (n ≡ 4)
Answers n (Err fault) = n ≡ number_of fault

-- what a call returns: 0, or the number of such a fault
abbrev pub IsAnswer : ℕ → (Fault → Type 0) → Type 0
IsAnswer n Is = (n ≡ 0) ⊎ ((fault : Fault) × (n ≡ number_of fault) × Is fault)

-- what a call returns that needs no memory: the number of the fault in its arguments, or 0
abbrev pub Returns : {A : Type 0} → ℕ → Result A Fault → Type 0
Returns n (Ok x) = n ≡ 0
Returns n (Err fault) = n ≡ number_of fault
