-- What contracts see of the record of a closed pile, and of the last moment of a shared one.
use Rattle.std.specs.Prelude.{ℕ, ◌≡◌, ◌+◌, ◌^◌, ◌<◌, ◌≤◌, Some, List, All, length, sum, slice_get, slice_index}
use Rattle.sand_model.specs.Grid.{sites}
use Rattle.sand_model.specs.Sand.{IsSettled, occurrences}
use Rattle.sand_model.specs.Piles.{PileView, IsPile, height_of, most_grains_on}
use Rattle.sand_settle.specs.Settling.{SettledView, IsSettledRecord, odometer_of}
use Rattle.sand_shared.specs.declared.view.Receipt.{Receipt}
use Rattle.sand_shared.specs.declared.view.View.{View}
use Rattle.sand_shared.specs.declared.view.Terms.{Terms}
use Rattle.sand_shared.specs.OpenPile.{grid_of_terms, receipts_for}
use Rattle.sand_shared.specs.Passes.{PassView, EachOnce}
use Rattle.sand_shared.specs.Running.{Stands}

-- the start, the site of each drop by number, and the result
pub record RecordView : Type 0 where
  pub start : PileView
  pub history : List ℕ
  pub settled : SettledView

-- it is the result of one thread that drops the history on the start, in order: the settled record of the start with
-- the drops
pub record IsOneThreads (r : RecordView) : Type 0 where
  pub start_pile : IsPile r.start
  pub all_sites : All (λ i. i < sites r.start.grid) r.history
  pub limit : sum r.start.heights + length r.history ≤ most_grains_on r.start.grid
  pub settled : IsSettledRecord r.start.grid (λ i. height_of r.start i + occurrences r.history i) r.settled
  -- each grain is on the settled pile or lost
  pub kept : r.settled.lost + sum r.settled.pile.heights ≡ sum r.start.heights + length r.history

-- the site of each receipt is at its number
abbrev pub Tells : List Receipt → List ℕ → Type 0
Tells receipts history = All (λ r. slice_get history r.number ≡ Some r.site) receipts

-- r is the record of a pile with these terms, closed by a pass that had gathered everything
pub record IsRecordOf (t : Terms) (p : PassView) (r : RecordView) : Type 0 where
  -- the result of one thread that drops the history on the start, in order: the settled pile, the grains lost, and the
  -- least odometer
  pub one_threads : IsOneThreads r
  pub start : r.start ≡ t.start
  -- each drop is there once, at the number that its call returned, after all drops that its pass had seen
  pub history : Tells p.receipts r.history
  pub each_drop_once : length r.history ≡ length p.receipts
  pub each_number_once : EachOnce p.receipts
  pub all_seen : p.seen ≡ length r.history
  -- each site is there as often as the pass has receipts for it
  pub by_site : (i : ℕ) → occurrences r.history i ≡ receipts_for p.receipts i
  -- what toppled in place stays toppled
  pub never_fall : (i : ℕ) → slice_index p.counts i ≤ odometer_of r.settled i

-- counts of what has toppled and a settled rest add up to the least odometer of the start and the history, and the rest
-- is the settled pile
pub record IsCompleted (start : PileView) (history counts : List ℕ) (rest : SettledView) : Type 0 where
  pub all_sites : All (λ i. i < sites start.grid) history
  pub limit : sum start.heights + length history ≤ most_grains_on start.grid
  pub heights_each : length rest.pile.heights ≡ sites start.grid
  pub counts_each : length counts ≡ sites start.grid
  pub odometer_each : length rest.odometer ≡ sites start.grid
  pub fits : (i : ℕ) → i < sites start.grid → slice_index counts i + odometer_of rest i < 2 ^ 54
  pub settled : IsSettled start.grid (λ i. height_of start i + occurrences history i)
      (λ i. slice_index counts i + odometer_of rest i) (height_of rest.pile)

-- the last moment: the pass a has v on a lawful open pile with these heights
pub record IsLast (t : Terms) (a : ℕ) (v : View) (heights : List ℕ) : Type 0 where
  pub stands : Stands t a v
  pub len : length heights ≡ sites (grid_of_terms t)
  pub each_height : (i : ℕ) → i < sites (grid_of_terms t) → slice_index heights i ≡ stands.pile.height i
