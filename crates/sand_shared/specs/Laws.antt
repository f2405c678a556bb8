-- The laws of the shared pile.
use Rattle.std.specs.Prelude.{ℕ, List, ◌≡◌, ◌∷◌, ◌++◌, ◌+◌, ◌<◌, ◌≤◌, length, sum}
use Rattle.atomic_table.specs.Table.{State}
use Rattle.sand_model.specs.Grid.{sites}
use Rattle.sand_model.specs.Piles.{height_of}
use Rattle.sand_model.specs.Sand.{occurrences}
use Rattle.sand_settle.specs.Settling.{IsSettledRecord}
use Rattle.sand_shared.specs.declared.view.Receipt.{Receipt}
use Rattle.sand_shared.specs.declared.view.View.{View}
use Rattle.sand_shared.specs.declared.view.Terms.{Terms}
use Rattle.sand_shared.specs.OpenPile.{OpenPile, grid_of_terms, receipts_for, present, AreTerms, IsLawful}
use Rattle.sand_shared.specs.Events.{Event, begin, receipts_from, unopened, AllHappen, after_all}
use Rattle.sand_shared.specs.Running.{Shows}
use Rattle.sand_shared.specs.Passes.{PassView, IsWhole}
use Rattle.sand_shared.specs.Record.{RecordView, IsRecordOf}
use Rattle.sand_shared.specs.Sweeps.{Swept}

-- the open pile is lawful after its begin and any list of events that can happen
abbrev pub AlwaysLawful : Type 0
AlwaysLawful = (t : Terms) (events : List Event) → AreTerms t → AllHappen t (unopened t) (begin ∷ events)
    → IsLawful t (after_all t (unopened t) (begin ∷ events))

-- a lawful open pile that the words and the views show
pub record ShowLawful (t : Terms) (s : State ℕ View) : Type 0 where
  pub pile : OpenPile
  pub lawful : IsLawful t pile
  pub shown : Shows t pile s

-- if this rule holds of words and views, they show a lawful open pile
abbrev pub HoldsLawful : (Terms → State ℕ View → Type 0) → Type 0
HoldsLawful rule = (t : Terms) (s : State ℕ View) → rule t s → ShowLawful t s

-- on a lawful pile, the grains on a site and in hand for it are at most the start and the quota together
abbrev pub FewGrains : Type 0
FewGrains = (t : Terms) (p : OpenPile) → AreTerms t → IsLawful t p → (i : ℕ) → i < sites (grid_of_terms t)
    → present p i ≤ sum t.start.heights + t.quota

-- no more drops have begun than the quota
abbrev pub FewDraws : Type 0
FewDraws = (t : Terms) (p : OpenPile) → IsLawful t p → length p.drawn ≤ t.quota

-- any two sweeps of a whole pass leave the same counts and return the same
abbrev pub OneSweep : Type 0
OneSweep = (t : Terms) (p : PassView) (counts others : List ℕ) (topplings other : ℕ) → IsWhole t p
    → Swept t p counts topplings → Swept t p others other → (counts ≡ others) × (topplings ≡ other)

-- consecutive drops have as many receipts for a site as their list has of it
abbrev pub ReceiptsBySite : Type 0
ReceiptsBySite = (n : ℕ) (drops : List ℕ) (i : ℕ) → receipts_for (receipts_from n drops) i ≡ occurrences drops i

-- the receipts of two lists for a site add up
abbrev pub ReceiptsAdd : Type 0
ReceiptsAdd = (a b : List Receipt) (i : ℕ) → receipts_for (a ++ b) i ≡ receipts_for a i + receipts_for b i

-- the record of a closed pile is the settled record of its start plus a grain for each receipt of its pass
abbrev pub RecordOfReceipts : Type 0
RecordOfReceipts = (t : Terms) (p : PassView) (r : RecordView) → IsRecordOf t p r
    → IsSettledRecord t.start.grid (λ i. height_of t.start i + receipts_for p.receipts i) r.settled
