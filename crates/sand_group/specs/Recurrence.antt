-- Recurrent piles and burning orders.
-- Source: Dhar 1990 (forbidden sets and the burning test).
use Rattle.std.specs.Prelude.{ℕ, Bool, ◌≡◌, ◌<◌, ◌≤◌, List, [], ◌∷◌, All, IsTrue, count_by, nat_lt}
use Rattle.std.specs.List.Sorted.{IsStrictlyIncreasing}
use Rattle.sand_model.specs.Forbidden.{IsForbidden}
use Rattle.sand_model.specs.Grid.{Grid, sites, neighbours}
use Rattle.sand_model.specs.Sand.{occurrences, IsStable}

-- stable, with no forbidden set
pub record IsRecurrent (g : Grid) (s : ℕ → ℕ) : Type 0 where
  pub stable : IsStable g s
  pub none : (set : ℕ → Bool) → ¬ IsForbidden g s set

abbrev pub is_in : List ℕ → ℕ → Bool
is_in xs i = nat_lt 0 (occurrences xs i)

-- the height of each site of the list is at least the number of its neighbours that come later
abbrev pub BurnsInOrder : Grid → (ℕ → ℕ) → List ℕ → Type 0
BurnsInOrder g s [] = Unit {0}
BurnsInOrder g s (i ∷ later) = (count_by (is_in later) (neighbours g i) ≤ s i) × BurnsInOrder g s later

-- all sites, each once, and each burns in its turn
pub record IsBurningOrder (g : Grid) (s : ℕ → ℕ) (order : List ℕ) : Type 0 where
  pub only_sites : All (λ i. i < sites g) order
  pub each_once : (i : ℕ) → i < sites g → occurrences order i ≡ 1
  pub in_turn : BurnsInOrder g s order

-- the sites of a forbidden set that contains every forbidden set, in ascending order
pub record IsGreatestForbidden (g : Grid) (s : ℕ → ℕ) (set : List ℕ) : Type 0 where
  pub only_sites : All (λ i. i < sites g) set
  pub ascending : IsStrictlyIncreasing set
  pub forbidden : IsForbidden g s (is_in set)
  pub greatest : (other : ℕ → Bool) → IsForbidden g s other → (i : ℕ) → i < sites g → IsTrue (other i)
      → IsTrue (is_in set i)
