-- Forbidden sets of sites. A set of sites is a test, true at its sites.
-- Sources: Dhar 1990; Friedrich and Levine 2013 (topplings are least if none can be taken back).
use Rattle.std.specs.Prelude.{ℕ, Bool, ◌<◌, IsTrue, count_by}
use Rattle.sand_model.specs.Grid.{Grid, sites, neighbours}

-- a non-empty set of sites, each of a height below its number of neighbours in the set
pub record IsForbidden (g : Grid) (s : ℕ → ℕ) (set : ℕ → Bool) : Type 0 where
  pub some : (i : ℕ) × (i < sites g) × IsTrue (set i)
  pub low : (i : ℕ) → i < sites g → IsTrue (set i) → s i < count_by set (neighbours g i)

-- no set of sites that have all toppled is forbidden in t, so no topplings can be taken back
pub record IsTight (g : Grid) (t u : ℕ → ℕ) : Type 0 where
  pub none : (set : ℕ → Bool) → IsForbidden g t set → ¬ ((i : ℕ) → i < sites g → IsTrue (set i) → 0 < u i)
