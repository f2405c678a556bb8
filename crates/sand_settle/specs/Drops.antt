-- What contracts see of the pile of one thread, and what makes it the settled record of its start and its drops.
-- Source: chip-firing; settling in two parts is settling at once, so drops may settle one after another (Dhar 1990).
use Rattle.std.specs.Prelude.{ℕ, ◌≡◌, ◌+◌, ◌-◌, ◌*◌, ◌<◌, ◌≤◌, List, [], ◌∷◌, All, length, sum, Option, IfSome, IsSome}
use Rattle.sand_model.specs.Grid.{Grid, IsGrid, sites}
use Rattle.sand_model.specs.Sand.{IsStable, IsSettled, one_at, occurrences, topplings, lost, weight}
use Rattle.sand_model.specs.Piles.{PileView, IsPile, height_of, most_grains_on, heaviest}
use Rattle.sand_settle.specs.Avalanches.{Avalanche, IsAvalanche}
use Rattle.sand_settle.specs.Settling.{SettledView, IsSettledRecord, odometer_of}

-- the settled record since the start, the number of drops, and the grains of the start and the drops
pub record DrivenView : Type 0 where
  pub settled : SettledView
  pub number : ℕ
  pub grains : ℕ

abbrev pub grid_of_driven : DrivenView → Grid
grid_of_driven v = v.settled.pile.grid

-- v is the result of this start and these drops: the settled record of the start and the drops
pub record IsAfter (start : PileView) (history : List ℕ) (v : DrivenView) : Type 0 where
  pub start_pile : IsPile start
  pub all_sites : All (λ j. j < sites start.grid) history
  pub limit : sum start.heights + length history ≤ most_grains_on start.grid
  pub settled : IsSettledRecord start.grid (λ j. height_of start j + occurrences history j) v.settled
  pub number : v.number ≡ length history
  pub grains : v.grains ≡ sum start.heights + length history

-- how often each site toppled between two settled records
abbrev pub topplings_between : SettledView → SettledView → ℕ → ℕ
topplings_between r q j = odometer_of q j - odometer_of r j

-- a grain dropped at a site of the settled pile of r, and the topplings that follow, lead to q
pub record TakesGrain (r : SettledView) (site : ℕ) (q : SettledView) : Type 0 where
  pub grid : q.pile.grid ≡ r.pile.grid
  pub heights_each : length q.pile.heights ≡ sites r.pile.grid
  pub odometer_each : length q.odometer ≡ sites r.pile.grid
  pub never_falls : (j : ℕ) → odometer_of r j ≤ odometer_of q j
  pub settled : IsSettled r.pile.grid (λ j. height_of r.pile j + one_at site j)
      (topplings_between r q) (height_of q.pile)
  pub more_topplings : q.topplings ≡ r.topplings + topplings r.pile.grid (topplings_between r q)
  pub more_lost : q.lost ≡ r.lost + lost r.pile.grid (topplings_between r q)

-- a drop at a site leads from v to w
pub record Drops (v : DrivenView) (site : ℕ) (w : DrivenView) : Type 0 where
  pub inside : site < sites (grid_of_driven v)
  pub room : v.grains < most_grains_on (grid_of_driven v)
  pub settled : TakesGrain v.settled site w.settled
  pub number : w.number ≡ v.number + 1
  pub grains : w.grains ≡ v.grains + 1

-- drops at the sites of a list, one by one, lead from v to w
abbrev pub DropsAll : DrivenView → List ℕ → DrivenView → Type 0
DropsAll v [] w = v ≡ w
DropsAll v (site ∷ history) w = (u : DrivenView) × Drops v site u × DropsAll u history w

-- a drop at a site leads from v to w, with this avalanche
pub record HasAvalanche (v : DrivenView) (site : ℕ) (a : Avalanche) (w : DrivenView) : Type 0 where
  pub drops : Drops v site w
  pub avalanche : IsAvalanche (grid_of_driven v) site (topplings_between v.settled w.settled) a

-- drops at the sites of a list, one by one, lead from v to w, each with a result of its own
abbrev pub DropsWith : {A : Type 0} → (DrivenView → ℕ → A → DrivenView → Type 0)
    → DrivenView → List ℕ → List A → DrivenView → Type 0
DropsWith Drop v [] [] w = v ≡ w
DropsWith Drop v (site ∷ sites) (x ∷ others) w = (u : DrivenView) × Drop v site x u × DropsWith Drop u sites others w
DropsWith Drop v sites others w = ⊥

-- the same, with these avalanches
abbrev pub AreAvalanches : DrivenView → List ℕ → List Avalanche → DrivenView → Type 0
AreAvalanches = DropsWith HasAvalanche

-- what holds of a settled record by itself: its sums are right and small, however it came about
pub record IsPaid (r : SettledView) : Type 0 where
  pub sides : IsGrid r.pile.grid
  pub heights_each : length r.pile.heights ≡ sites r.pile.grid
  pub odometer_each : length r.odometer ≡ sites r.pile.grid
  pub stable : IsStable r.pile.grid (height_of r.pile)
  pub limit : sum r.pile.heights + r.lost ≤ most_grains_on r.pile.grid
  pub all_topplings : r.topplings ≡ topplings r.pile.grid (odometer_of r)
  pub paid : 8 * r.topplings + 4 * weight r.pile.grid (height_of r.pile)
      ≤ heaviest r.pile.grid * (sum r.pile.heights + r.lost)

-- a record, seen with the grains that are on the pile or were lost
abbrev pub driven_view : SettledView → ℕ → DrivenView
driven_view r number = record { settled = r; number = number; grains = sum r.pile.heights + r.lost }

-- the record is right, and a driven pile, if there is one, has the same; after the first drop there is one
pub record IsOnePile (r : SettledView) (driven : Option DrivenView) (number : ℕ) : Type 0 where
  pub paid : IsPaid r
  pub same : IfSome driven (λ v. v ≡ driven_view r number)
  pub made : 0 < number → IsSome driven
