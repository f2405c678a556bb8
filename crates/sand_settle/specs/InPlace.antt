-- Settling heights where they are.
use Rattle.std.specs.Prelude.{ℕ, ◌≡◌, ◌≤◌, List, length, sum, slice_index, Result, IfOk, OnErr}
use Rattle.sand_model.specs.Grid.{Grid, sites}
use Rattle.sand_model.specs.Piles.{most_grains_on}
use Rattle.sand_settle.specs.Settling.{SettledView, IsSettledRecord}
use Rattle.sand_settle.specs.declared.faults.SettleFault.{SettleFault}
use Rattle.sand_settle.specs.declared.in_place.Totals.{Totals}

-- a settled record whose lists were written in place
abbrev pub record_in_place : Grid → List ℕ → List ℕ → Totals → SettledView
record_in_place g heights odometer totals = record {
  pile = record { grid = g; heights = heights };
  odometer = odometer;
  topplings = totals.topplings;
  lost = totals.lost;
}

-- a pile in a list, and a list for its odometer
pub record IsInPlace (g : Grid) (heights odometer : List ℕ) : Type 0 where
  pub heights_each : length heights ≡ sites g
  pub odometer_each : length odometer ≡ sites g
  pub limit : sum heights ≤ most_grains_on g

-- the lists h and u become the settled heights k and the odometer v, or stay if that fails
pub record SettlesInPlace (g : Grid) (h u k v : List ℕ) (result : Result Totals SettleFault) : Type 0 where
  pub settled : IfOk result (λ t. IsSettledRecord g (slice_index h) (record_in_place g k v t))
  pub heights : OnErr result (k ≡ h)
  pub odometer : OnErr result (v ≡ u)
