-- What `sandpile_settle` and `sandpile_settle_all` do.
use Rattle.std.specs.Prelude.{ℕ, zero, suc, ◌≡◌, ◌*◌, ◌<◌, ◌&&◌, Bool, true, nat_le, if◌then◌else◌, List, length, sum, slice_index, Result, Ok, Err}
use Rattle.std.specs.Fork.{slice_chunk}
use Rattle.sand_model.specs.Grid.{Grid, sites}
use Rattle.sand_model.specs.Piles.{PileView, height_of, most_grains_on}
use Rattle.sand_settle.specs.Settling.{IsSettledRecord}
use Rattle.sand_c.specs.declared.arguments.Sides.{Sides}
use Rattle.sand_c.specs.declared.faults.Fault.{Fault}
use Rattle.sand_c.specs.declared.faults.Fault.TheVariants.{TooManyGrains}
use Rattle.sand_c.specs.declared.settling.SettledPiles.{SettledPiles}
use Rattle.sand_c.specs.Arguments.{grid_of, has_length, pile_with, ◌>>=◌}

abbrev pub settling_of : Sides → List ℕ → List ℕ → Result PileView Fault
settling_of s heights odometer = pile_with s heights (length odometer)

-- the arguments are a pile, and what was written is its settled record
pub record IsSettling (meaning : Result PileView Fault) (after odometer : List ℕ) (lost topplings : ℕ) : Type 0 where
  pub start : PileView
  pub meant : meaning ≡ Ok start
  pub settled : IsSettledRecord start.grid (height_of start) (record {
    pile = record { grid = start.grid; heights = after };
    odometer = odometer;
    topplings = topplings;
    lost = lost;
  })

-- whether each of the first k piles of n sites has at most `most` grains
abbrev pub are_within : ℕ → ℕ → List ℕ → ℕ → Bool
are_within most n heights zero = true
are_within most n heights (suc k) = are_within most n heights k && nat_le (sum (slice_chunk heights n k)) most

-- the grid, if there is a pile on it for each place of `lost`, with places for its odometer and its topplings, and each pile
-- is within the limit
abbrev pub settling_all_of : Sides → List ℕ → List ℕ → List ℕ → List ℕ → Result Grid Fault
settling_all_of s heights odometer lost topplings =
    grid_of s >>= λ g. has_length (length lost) (length topplings)
    >>= λ _. has_length (length lost * sites g) (length heights)
    >>= λ _. has_length (length lost * sites g) (length odometer)
    >>= λ _. (if are_within (most_grains_on g) (sites g) heights (length lost) then Ok g else Err TooManyGrains)

-- what is written for the j-th pile is what `sandpile_settle` writes for it
abbrev pub IsSettlingAt : ℕ → Sides → List ℕ → List ℕ → List ℕ → List ℕ → List ℕ → List ℕ → Type 0
IsSettlingAt j s heights places after odometer lost topplings =
    let n = s.width * s.height in
    IsSettling (settling_of s (slice_chunk heights n j) (slice_chunk places n j))
    (slice_chunk after n j) (slice_chunk odometer n j) (slice_index lost j) (slice_index topplings j)

-- these are the settled records of the first k piles on a grid
pub record AreRecords (g : Grid) (heights : List ℕ) (k : ℕ) (settled : SettledPiles) : Type 0 where
  pub heights_each : length settled.heights.items ≡ k * sites g
  pub odometer_each : length settled.odometer.items ≡ k * sites g
  pub lost_each : length settled.lost.items ≡ k
  pub topplings_each : length settled.topplings.items ≡ k
  pub records : (j : ℕ) → j < k → IsSettledRecord g (slice_index (slice_chunk heights (sites g) j)) (record {
    pile = record { grid = g; heights = slice_chunk settled.heights.items (sites g) j };
    odometer = slice_chunk settled.odometer.items (sites g) j;
    topplings = slice_index settled.topplings.items j;
    lost = slice_index settled.lost.items j;
  })
