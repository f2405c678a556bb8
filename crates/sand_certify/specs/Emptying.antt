-- What shows that counts of topplings empty a stable pile.
use Rattle.std.specs.Prelude.{ℕ, ◌≡◌, ◌+◌, ◌*◌, ◌^◌, ◌<◌, ◌≤◌, List, All, length, slice_index}
use Rattle.sand_model.specs.Grid.{Grid, sites}
use Rattle.sand_model.specs.Sand.{flow}

-- Lu is from 0 to 3 at site i
pub record IsLowAt (g : Grid) (u : ℕ → ℕ) (i : ℕ) : Type 0 where
  pub not_negative : flow g u i ≤ 4 * u i
  pub at_most_three : 4 * u i ≤ flow g u i + 3

pub record IsLow (g : Grid) (u : ℕ → ℕ) : Type 0 where
  pub each : (i : ℕ) → i < sites g → IsLowAt g u i

-- counts u below 2^54 for which Lu is a stable pile
pub record IsEmptying (g : Grid) (counts : List ℕ) : Type 0 where
  pub counts_each : length counts ≡ sites g
  pub bound : All (λ n. n < 2 ^ 54) counts
  pub low : IsLow g (slice_index counts)

-- Lu is from 0 to 3 at site i, and it is h
pub record IsEmptiedAt (g : Grid) (u : ℕ → ℕ) (i h : ℕ) : Type 0 where
  pub low : IsLowAt g u i
  pub balance : h + flow g u i ≡ 4 * u i
