-- For each epoch a report has a tally list for each observer, a swept number for each worker, and the album's place.
use Rattle.sand_lab.proofs.Common.{ℕ, ◌≡◌, ◌+◌, ◌<◌, zero, suc, List, [], ◌∷◌, length, slice_index_or, None, subst, arith, PileView, RecordView, Wish, SheetView, ReportView, IsEpoch, AreEpochs, IsReport, sheet_at}
use Rattle.sand_lab.specs.Albums.{IsPlace}

pub record IsSheet (album : List ℕ) (w : Wish) (t : ℕ) (s : SheetView) : Type 0 where
  pub tallies : length s.tallies ≡ w.observers
  pub swept : length s.swept ≡ w.workers
  pub place : IsPlace album t s.place

sheet_of : (album : List ℕ) (w : Wish) (start : PileView) (t : ℕ) (r : RecordView) (s : SheetView)
    → IsEpoch album w start t r s → IsSheet album w t s
sheet_of album w start t r s epoch =
    record { tallies = epoch.closed.observers.all; swept = epoch.closed.workers.all; place = epoch.place }

-- the sheets start at epoch `from`, so the one at index t is that of epoch from + t
sheets_of : (album : List ℕ) (w : Wish) (none : SheetView) (start : PileView)
    (from : ℕ) (rs : List RecordView) (ss : List SheetView)
    → AreEpochs album w start from rs ss
    → (t n : ℕ) → from + t ≡ n → t < length rs → IsSheet album w n (slice_index_or ss t none)
sheets_of album w none start from [] ss epochs t n is l = absurd (omega (arith, l))
sheets_of album w none start from (r ∷ rs) [] epochs t n is l = absurd epochs
sheets_of album w none start from (r ∷ rs) (s ∷ ss) epochs zero n is l =
    let here : from ≡ n = omega (arith, is) in
    subst (λ m. IsSheet album w m s) here (sheet_of album w start from r s epochs.0)
sheets_of album w none start from (r ∷ rs) (s ∷ ss) epochs (suc t) n is l =
    sheets_of album w none r.settled.pile (from + 1) rs ss epochs.1 t n (omega (arith, is)) (omega (arith, l))

pub sheets : (album : List ℕ) (v w : Wish) → v ≡ w
    → (start : PileView) (p : ReportView) → IsReport album v start p
    → (t : ℕ) → t < w.epochs → IsSheet album w t (sheet_at p t)
sheets album v w same start p made t l =
    let none : SheetView = record { journal = []; tallies = []; swept = []; place = 0; shown = None } in
    let report = subst (λ (u : Wish). IsReport album u start p) same made in
    sheets_of album w none start 0 p.records p.sheets report.epochs t t (omega arith) (omega (arith, l, report.all))
