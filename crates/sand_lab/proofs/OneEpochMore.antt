-- A report with one more epoch, and why each epoch stays within the limit.
use Rattle.sand_lab.proofs.Common.{◌≡◌, ℕ, zero, suc, ◌+◌, ◌-◌, ◌*◌, ◌<◌, ◌≤◌, List, [], ◌∷◌, ◌++◌, length, sum, sum_by, refl, sym, ap, ◌∙◌, subst, arith, append_assoc, append-nil, length-append, length-map, sum_by-cons, sum_by-append, sites, PileView, most_grains_on, odometer_of, RecordView, Entry, Wish, quota_of, all_drops, IsClosed, SheetView, ReportView, report_of, IsEpoch, AreEpochs, IsTotal, IsReportOf, IsBoth, HasGrown, last_pile, histories}

epochs_push : (album : List ℕ) (w : Wish) (start : PileView) (t : ℕ)
    (rs : List RecordView) (ss : List SheetView) (r : RecordView) (s : SheetView)
    → AreEpochs album w start t rs ss
    → IsEpoch album w (last_pile start rs) (t + length rs) r s → AreEpochs album w start t (rs ++ r ∷ []) (ss ++ s ∷ [])
epochs_push album w start t [] [] r s h e =
    let same : t + zero ≡ t = omega arith in
    (subst (λ (n : ℕ). IsEpoch album w start n r s) same e, tt)
epochs_push album w start t [] (y ∷ ss) r s h e = absurd h
epochs_push album w start t (x ∷ rs) [] r s h e = absurd h
epochs_push album w start t (x ∷ rs) (y ∷ ss) r s h e =
    let same : t + suc (length rs) ≡ t + 1 + length rs = omega arith in (
      h.0,
      epochs_push album w x.settled.pile (t + 1) rs ss r s h.1
          (subst (λ (n : ℕ). IsEpoch album w (last_pile x.settled.pile rs) n r s) same e),
    )

last_push : (start : PileView) (rs : List RecordView) (r : RecordView) → last_pile start (rs ++ r ∷ []) ≡ r.settled.pile
last_push start [] r = refl
last_push start (x ∷ rs) r = last_push x.settled.pile rs r

histories_push : (rs : List RecordView) (r : RecordView) → histories (rs ++ r ∷ []) ≡ histories rs ++ r.history
histories_push [] r = append-nil r.history
histories_push (x ∷ rs) r =
    ap (λ (ns : List ℕ). x.history ++ ns) (histories_push rs r) ∙ sym (append_assoc x.history (histories rs) r.history)

sum_push : (f : RecordView → ℕ) (rs : List RecordView) (r : RecordView) → sum_by f (rs ++ r ∷ []) ≡ sum_by f rs + f r
sum_push f rs r = let both = sum_by-append f rs (r ∷ []) in let one = sum_by-cons f r [] in omega (arith, both, one)

total_more : (start : PileView) (rs : List RecordView) (p r q : RecordView) → IsTotal start rs p → IsBoth p r q
    → IsTotal start (rs ++ r ∷ []) q
total_more start rs p r q t b = record {
  one_threads = b.one_threads;
  from_start = b.start ∙ t.from_start;
  history = b.history ∙ ap (λ (ns : List ℕ). ns ++ r.history) t.history ∙ sym (histories_push rs r);
  pile = b.pile ∙ sym (last_push start rs r);
  odometer = λ i l.
      let inside : i < sites p.start.grid = subst (λ (x : PileView). i < sites x.grid) (sym t.from_start) l in
      let push = sum_push (λ x. odometer_of x.settled i) rs r in
      omega (arith, b.odometer i inside, t.odometer i l, push);
  topplings = omega (arith, b.topplings, t.topplings, sum_push (λ x. x.settled.topplings) rs r);
  lost = omega (arith, b.lost, t.lost, sum_push (λ x. x.settled.lost) rs r);
}

pub report_first : (album : List ℕ) (w : Wish) (start : PileView) (r : RecordView) (s : SheetView)
    → IsEpoch album w start 0 r s → IsReportOf album w start 1 (report_of r s)
report_first album w start r s e = record {
  all = refl;
  epochs = (e, tt);
  total = record {
    one_threads = e.closed.one_threads;
    from_start = e.closed.from_start;
    history = sym (append-nil r.history);
    pile = refl;
    odometer = λ i l. sym (sum_by-cons (λ (x : RecordView). odometer_of x.settled i) r [] ∙ omega arith);
    topplings = sym (sum_by-cons (λ (x : RecordView). x.settled.topplings) r [] ∙ omega arith);
    lost = sym (sum_by-cons (λ (x : RecordView). x.settled.lost) r [] ∙ omega arith);
  };
}

-- one more epoch, which starts from the pile of the total
pub report_more : (album : List ℕ) (w : Wish) (start : PileView)
    (n : ℕ) (p q : ReportView) (r : RecordView) (s : SheetView)
    → IsReportOf album w start n p → IsEpoch album w p.total.settled.pile n r s
    → HasGrown p r s q → IsReportOf album w start (n + 1) q
report_more album w start n p q r s is e g =
    let place : n ≡ zero + length p.records = omega (arith, is.all) in
    let next : IsEpoch album w (last_pile start p.records) (zero + length p.records) r s =
    subst (λ (m : ℕ). IsEpoch album w (last_pile start p.records) m r s) place
    (subst (λ (x : PileView). IsEpoch album w x n r s) is.total.pile e) in
    let pushed = epochs_push album w start zero p.records p.sheets r s is.epochs next in
    record {
      all = ap length g.records ∙ length-append p.records (r ∷ []) ∙ ap (λ (m : ℕ). m + 1) is.all;
      epochs = subst (λ (ss : List SheetView). AreEpochs album w start 0 q.records ss) (sym g.sheets)
          (subst (λ (rs : List RecordView). AreEpochs album w start 0 rs (p.sheets ++ s ∷ [])) (sym g.records) pushed);
      total = subst (λ (rs : List RecordView). IsTotal start rs q.total) (sym g.records)
          (total_more start p.records p.total r q.total is.total g.total);
    }

-- an epoch makes as many drops as its quota
pub closed_drops : (w : Wish) (start : PileView) (t : ℕ) (r : RecordView) (js : List Entry)
    (tallies : List (List ℕ)) (swept : List ℕ) → IsClosed w start t r js tallies swept → length r.history ≡ quota_of w
closed_drops w start t r js tallies swept is =
    ap length (sym is.history) ∙ length-map js (λ (x : Entry). x.site) ∙ is.streams.all

pub epoch_drops : (album : List ℕ) (w : Wish) (start : PileView) (t : ℕ) (r : RecordView) (s : SheetView)
    → IsEpoch album w start t r s → length r.history ≡ quota_of w
epoch_drops album w start t r s e = closed_drops w start t r s.journal s.tallies s.swept e.closed

all_dropped : (album : List ℕ) (w : Wish) (start : PileView) (t : ℕ) (rs : List RecordView) (ss : List SheetView)
    → AreEpochs album w start t rs ss
    → length (histories rs) ≡ length rs * quota_of w
all_dropped album w start t [] ss h = omega arith
all_dropped album w start t (r ∷ rs) [] h = absurd h
all_dropped album w start t (r ∷ rs) (s ∷ ss) h =
    let one = epoch_drops album w start t r s h.0 in
    omega (arith, one, all_dropped album w r.settled.pile (t + 1) rs ss h.1, length-append r.history (histories rs))

-- the epochs so far made as many drops as their quotas
pub dropped_so_far : (album : List ℕ) (w : Wish) (start : PileView) (n : ℕ) (p : ReportView)
    → IsReportOf album w start n p → length p.total.history ≡ n * quota_of w
dropped_so_far album w start n p is = ap length is.total.history
    ∙ all_dropped album w start 0 p.records p.sheets is.epochs ∙ ap (λ (m : ℕ). m * quota_of w) is.all

one_more : (n epochs quota : ℕ) → n < epochs → n * quota + quota ≤ quota * epochs
one_more n epochs quota lt = grind (arith, lt)

-- the first epoch and the later ones
pub first_and_later : (epochs quota : ℕ) → 0 < epochs → quota + quota * (epochs - 1) ≡ quota * epochs
first_and_later zero quota some = absurd (omega (arith, some))
first_and_later (suc n) quota some = grind arith

-- each epoch has room for its drops
pub room_for_epoch : (album : List ℕ) (w : Wish) (start : PileView) (n : ℕ) (p : ReportView)
    → IsReportOf album w start n p → n < w.epochs
    → sum start.heights + all_drops w ≤ most_grains_on start.grid
    → (sum p.total.start.heights + (length p.total.history + quota_of w) ≤ most_grains_on p.total.start.grid)
    × (sum p.total.settled.pile.heights + quota_of w ≤ most_grains_on p.total.settled.pile.grid)
room_for_epoch album w start n p is lt limit =
    let drops = dropped_so_far album w start n p is in
    let more = one_more n w.epochs (quota_of w) lt in
    let same = ap (λ (x : PileView). sum x.heights) is.total.from_start in
    let first = ap (λ (x : PileView). most_grains_on x.grid) is.total.from_start in
    let last = ap most_grains_on is.total.one_threads.settled.grid in
    let grains = is.total.one_threads.kept in
    (omega (arith, drops, more, same, first, limit), omega (arith, drops, more, same, first, last, limit, grains))
