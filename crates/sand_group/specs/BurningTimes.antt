-- The burning test step by step: in each step all sites burn that can.
-- Source: Dhar 1990.
use Rattle.std.specs.Prelude.{ℕ, zero, suc, Bool, false, not, ◌≡◌, ◌<◌, ◌≤◌, ◌&&◌, count_by, nat_lt, nat_le}
use Rattle.sand_model.specs.Grid.{Grid, sites, neighbours}

-- whether a site burns within t steps: its height is at least the number of its neighbours that do not burn before step t
unfoldable pub burns_within : Grid → (ℕ → ℕ) → ℕ → ℕ → Bool
burns_within g s zero i = false
burns_within g s (suc t) i = nat_le (count_by (λ j. not (burns_within g s t j)) (neighbours g i)) (s i)

-- whether a site with this burning time burns within t steps; the time 0 is that of a site that never burns
abbrev pub is_time_within : ℕ → ℕ → Bool
is_time_within t time = nat_lt 0 time && nat_le time t

-- the step in which each site burns, from 1 on, and 0 for each site that never does
pub record AreBurningTimes (g : Grid) (s time : ℕ → ℕ) : Type 0 where
  pub each : (i : ℕ) → i < sites g → (t : ℕ) → burns_within g s t i ≡ is_time_within t (time i)

-- the same after t steps, with 0 for each site that has not burnt
pub record AreTimesSoFar (g : Grid) (s time : ℕ → ℕ) (t : ℕ) : Type 0 where
  pub each : (i : ℕ) → i < sites g → (u : ℕ) → u ≤ t → burns_within g s u i ≡ is_time_within u (time i)
  pub most : (i : ℕ) → i < sites g → time i ≤ t
