-- Why a run has one outcome. A record is determined by its start and the drops on each site, because heights settle to
-- one pile with one odometer. How often a site is dropped on in an epoch is determined by the streams.
use Rattle.sand_lab.proofs.Common.{ℕ, ◌≡◌, ◌+◌, ◌*◌, List, [], ◌∷◌, map, length, sum, refl, sym, ap, ◌∙◌, arith, sites, PileView, height_of, sum_below, occurrences, SettledView, RecordView, IsOneThreads, quota_of, Wish, SheetView, AreEpochs, histories, stream_of, stream_sites}
use Rattle.sand_model.proofs.Occurrences.{occurrences-append}
use Rattle.sand_settle.proofs.OneRecord.{one_record}
use Rattle.sand_shared.proofs.Receipts.{record_of_drops}
use Rattle.sand_lab.proofs.OneEpochMore.{epoch_drops, dropped_so_far}
use Rattle.sand_lab.specs.Laws.{AskTheSame, OneOutcome, one_of}

-- the result of one thread depends only on the start and on how often each site was dropped on, in any order
pub one_threads_once : (r q : RecordView) → IsOneThreads r → IsOneThreads q
    → r.start ≡ q.start → ((i : ℕ) → occurrences r.history i ≡ occurrences q.history i)
    → r.settled ≡ q.settled
one_threads_once r q one other starts tallies =
    one_record q.start.grid (λ i. height_of q.start i + occurrences q.history i) r.settled q.settled
    (record_of_drops q.start r (occurrences q.history) one starts tallies) other.settled

-- records with equal results, whose histories together have equal tallies
record SettleAlike (rs qs : List RecordView) : Type 0 where
  ones : map one_of rs ≡ map one_of qs
  tallies : (i : ℕ) → occurrences (histories rs) i ≡ occurrences (histories qs) i

-- one more epoch in front of such records
alike_more : (r q : RecordView) (rs qs : List RecordView) → one_of r ≡ one_of q
    → ((i : ℕ) → occurrences r.history i ≡ occurrences q.history i) → SettleAlike rs qs
    → SettleAlike (r ∷ rs) (q ∷ qs)
alike_more r q rs qs same tallies rest = record {
  ones = λ k. same k ∷ rest.ones k;
  tallies = λ i.
      let mine = occurrences-append r.history (histories rs) i in
      omega (arith, occurrences-append q.history (histories qs) i, tallies i, rest.tallies i);
}

one_same : (r q : RecordView) → r.start ≡ q.start → r.settled ≡ q.settled → length r.history ≡ length q.history
    → one_of r ≡ one_of q
one_same r q starts same long k = record { settled = same k; number = long k; grains = sum (starts k).heights + long k }

module _ (album album' : List ℕ) (w v : Wish) (asks : AskTheSame w v) where
  same_quota : quota_of w ≡ quota_of v
  same_quota k = asks.droppers k * asks.drops k

  -- from equal starts both runs have such epochs
  epochs_alike : (start start' : PileView) (t : ℕ) (rs qs : List RecordView) (ss us : List SheetView)
      → start ≡ start' → length rs ≡ length qs → AreEpochs album w start t rs ss
      → AreEpochs album' v start' t qs us → SettleAlike rs qs
  epochs_alike start start' t [] [] ss us starts long mine theirs = record { ones = refl; tallies = λ i. refl }
  epochs_alike start start' t [] (q ∷ qs) ss us starts long mine theirs = absurd (omega arith)
  epochs_alike start start' t (r ∷ rs) [] ss us starts long mine theirs = absurd (omega arith)
  epochs_alike start start' t (r ∷ rs) (q ∷ qs) [] us starts long mine theirs = absurd mine
  epochs_alike start start' t (r ∷ rs) (q ∷ qs) (s ∷ ss) [] starts long mine theirs = absurd theirs
  epochs_alike start start' t (r ∷ rs) (q ∷ qs) (s ∷ ss) (u ∷ us) starts long (mine, more) (theirs, others) =
      let streams : (i : ℕ)
      → sum_below w.droppers (λ k. occurrences (stream_sites (sites start.grid) w.seed (stream_of t k) w.drops) i)
      ≡ sum_below v.droppers (λ k. occurrences (stream_sites (sites start'.grid) v.seed (stream_of t k) v.drops) i) =
      λ i j. sum_below (asks.droppers j)
      (λ k. occurrences (stream_sites (sites (starts j).grid) (asks.seed j) (stream_of t k) (asks.drops j)) i) in
      let tallies : (i : ℕ) → occurrences r.history i ≡ occurrences q.history i =
      λ i. mine.closed.by_site i ∙ streams i ∙ sym (theirs.closed.by_site i) in
      let from : r.start ≡ q.start = mine.closed.from_start ∙ starts ∙ sym theirs.closed.from_start in
      let same = one_threads_once r q mine.closed.one_threads theirs.closed.one_threads from tallies in
      let drops = epoch_drops album w start t r s mine ∙ same_quota ∙ sym (epoch_drops album' v start' t q u theirs) in
      alike_more r q rs qs (one_same r q from same drops) tallies
      (epochs_alike r.settled.pile q.settled.pile (t + 1) rs qs ss us
      (ap (λ (x : SettledView). x.pile) same) (omega arith) more others)

pub one_outcome : OneOutcome
one_outcome album album' w v start p q asks mine theirs =
    let alike = epochs_alike album album' w v asks start start 0 p.records q.records p.sheets
    q.sheets refl (mine.all ∙ asks.epochs ∙ sym theirs.all) mine.epochs theirs.epochs in
    let from : p.total.start ≡ q.total.start = mine.total.from_start ∙ sym theirs.total.from_start in
    let same = one_threads_once p.total q.total mine.total.one_threads theirs.total.one_threads from
    (λ i. ap (λ (h : List ℕ). occurrences h i) mine.total.history ∙ alike.tallies i
    ∙ ap (λ (h : List ℕ). occurrences h i) (sym theirs.total.history)) in
    let times : w.epochs * quota_of w ≡ v.epochs * quota_of v =
    λ k. asks.epochs k * same_quota album album' w v asks k in
    let drops =
    dropped_so_far album w start w.epochs p mine ∙ times ∙ sym (dropped_so_far album' v start v.epochs q theirs) in
    record { epochs = alike.ones; total = one_same p.total q.total from same drops }
