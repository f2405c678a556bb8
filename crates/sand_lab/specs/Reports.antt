-- The result of a run: a record of each epoch, with its journal, its tallies, what its workers swept and the album's
-- note of it; and one record of all epochs.
use Rattle.std.specs.Prelude.{ℕ, ◌≡◌, ◌+◌, ◌<◌, List, [], ◌∷◌, ◌++◌, Option, Some, None, length, sum_by, slice_index_or}
use Rattle.std.specs.List.{flat_map}
use Rattle.sand_model.specs.Grid.{sites}
use Rattle.sand_model.specs.Piles.{PileView}
use Rattle.sand_settle.specs.Settling.{odometer_of}
use Rattle.sand_shared.specs.Record.{RecordView, IsOneThreads}
use Rattle.sand_lab.specs.declared.journal.Entry.{Entry}
use Rattle.sand_wish.specs.declared.wish.Wish.{Wish}
use Rattle.sand_lab.specs.Albums.{PictureView, IsPlace}
use Rattle.sand_lab.specs.Epochs.{IsClosed}

-- what is kept of an epoch with its record; `place` names the album's place, and `shown` is what the note of it knows
pub record SheetView : Type 0 where
  pub journal : List Entry
  pub tallies : List (List ℕ)
  pub swept : List ℕ
  pub place : ℕ
  pub shown : Option PictureView

pub record ReportView : Type 0 where
  pub records : List RecordView
  pub sheets : List SheetView
  pub total : RecordView

-- epoch t is closed, and the album's place t shows its record
pub record IsEpoch (album : List ℕ) (w : Wish) (start : PileView)
    (t : ℕ) (r : RecordView) (s : SheetView) : Type 0 where
  pub closed : IsClosed w start t r s.journal s.tallies s.swept
  pub place : IsPlace album t s.place
  pub shown : s.shown ≡ Some (record { epoch = t; closed = r })

-- the epochs from t on, each starting from the pile of the one before it
abbrev pub AreEpochs : List ℕ → Wish → PileView → ℕ → List RecordView → List SheetView → Type 0
AreEpochs album w start t [] [] = Unit {0}
AreEpochs album w start t (r ∷ rs) (s ∷ ss) =
    IsEpoch album w start t r s × AreEpochs album w r.settled.pile (t + 1) rs ss
AreEpochs album w start t _ _ = ⊥

-- the pile after all records
abbrev pub last_pile : PileView → List RecordView → PileView
last_pile start [] = start
last_pile start (r ∷ rs) = last_pile r.settled.pile rs

abbrev pub histories : List RecordView → List ℕ
histories records = flat_map (λ (r : RecordView). r.history) records

-- one record of all: the result of one thread that drops all histories, one after the other
pub record IsTotal (start : PileView) (records : List RecordView) (total : RecordView) : Type 0 where
  pub one_threads : IsOneThreads total
  pub from_start : total.start ≡ start
  pub history : total.history ≡ histories records
  pub pile : total.settled.pile ≡ last_pile start records
  pub odometer : (i : ℕ) → i < sites start.grid
      → odometer_of total.settled i ≡ sum_by (λ (r : RecordView). odometer_of r.settled i) records
  pub topplings : total.settled.topplings ≡ sum_by (λ (r : RecordView). r.settled.topplings) records
  pub lost : total.settled.lost ≡ sum_by (λ (r : RecordView). r.settled.lost) records

-- the report of the first n epochs of a plan from a start, published in an album
pub record IsReportOf (album : List ℕ) (w : Wish) (start : PileView) (n : ℕ) (p : ReportView) : Type 0 where
  pub all : length p.records ≡ n
  pub epochs : AreEpochs album w start 0 p.records p.sheets
  pub total : IsTotal start p.records p.total

-- the report of a run
abbrev pub IsReport : List ℕ → Wish → PileView → ReportView → Type 0
IsReport album w start p = IsReportOf album w start w.epochs p

-- what is kept of epoch number t
abbrev pub sheet_at : ReportView → ℕ → SheetView
sheet_at p t = slice_index_or p.sheets t (record { journal = []; tallies = []; swept = []; place = 0; shown = None })

-- the report of the first epoch
abbrev pub report_of : RecordView → SheetView → ReportView
report_of r s = record { records = r ∷ []; sheets = s ∷ []; total = r }

-- two records as one; the second starts from the pile of the first
pub record IsBoth (first next both : RecordView) : Type 0 where
  pub one_threads : IsOneThreads both
  pub start : both.start ≡ first.start
  pub history : both.history ≡ first.history ++ next.history
  pub pile : both.settled.pile ≡ next.settled.pile
  pub odometer : (i : ℕ) → i < sites first.start.grid
      → odometer_of both.settled i ≡ odometer_of first.settled i + odometer_of next.settled i
  pub topplings : both.settled.topplings ≡ first.settled.topplings + next.settled.topplings
  pub lost : both.settled.lost ≡ first.settled.lost + next.settled.lost

-- the report with one more epoch
pub record HasGrown (p : ReportView) (r : RecordView) (s : SheetView) (q : ReportView) : Type 0 where
  pub records : q.records ≡ p.records ++ r ∷ []
  pub sheets : q.sheets ≡ p.sheets ++ s ∷ []
  pub total : IsBoth p.total r q.total
