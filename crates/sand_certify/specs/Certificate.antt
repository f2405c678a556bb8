-- What shows that counts are the least odometer of a pile.
-- Sources: Fey, Levine and Peres 2010 (least action), Friedrich and Levine 2013 (nothing can be untoppled), Dhar 1990
-- (burning).
use Rattle.std.specs.Prelude.{ℕ, ◌≡◌, ◌+◌, ◌*◌, ◌^◌, ◌<◌, ◌≤◌, List, All, length, slice_index, count_by, nat_le}
use Rattle.sand_model.specs.Grid.{Grid, sites, neighbours}
use Rattle.sand_model.specs.Sand.{flow}

-- the number of neighbours of a site whose turn is not earlier than its own
abbrev pub no_earlier : Grid → (ℕ → ℕ) → ℕ → ℕ
no_earlier g turn i = count_by (λ j. nat_le (turn i) (turn j)) (neighbours g i)

-- each site that has toppled burns at its turn, when its neighbours of earlier turns have burnt
pub record ToppledSitesBurn (g : Grid) (t u turn : ℕ → ℕ) : Type 0 where
  pub each : (i : ℕ) → i < sites g → 0 < u i → no_earlier g turn i ≤ t i

-- the counts u and the turns are right at site i: s - Lu is from 0 to 3, and i burns at its turn if it has toppled
pub record IsShownAt (g : Grid) (s u turn : ℕ → ℕ) (i : ℕ) : Type 0 where
  pub not_negative : 4 * u i ≤ s i + flow g u i
  pub at_most_three : s i + flow g u i ≤ 4 * u i + 3
  pub burns : 0 < u i → 4 * u i + no_earlier g turn i ≤ s i + flow g u i

pub record IsShownEverywhere (g : Grid) (s u turn : ℕ → ℕ) : Type 0 where
  pub each : (i : ℕ) → i < sites g → IsShownAt g s u turn i

-- counts and turns that show how often each site topples
pub record IsCertificate (g : Grid) (s : ℕ → ℕ) (counts turns : List ℕ) : Type 0 where
  pub counts_each : length counts ≡ sites g
  pub turns_each : length turns ≡ sites g
  pub bound : All (λ n. n < 2 ^ 54) counts
  pub shown : IsShownEverywhere g s (slice_index counts) (slice_index turns)

-- the counts and the turns are right at site i, and s - Lu is h there
pub record IsLeftAt (g : Grid) (s u turn : ℕ → ℕ) (i h : ℕ) : Type 0 where
  pub shown : IsShownAt g s u turn i
  pub balance : h + 4 * u i ≡ s i + flow g u i
