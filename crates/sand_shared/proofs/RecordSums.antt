-- The sums in a record are right, and small.
use Rattle.sand_shared.proofs.Common.{◌≡◌, ℕ, ◌+◌, ◌-◌, ◌*◌, ◌^◌, ◌<◌, ◌≤◌, List, ◌++◌, All, length, sum, sym, ap, ◌∙◌, subst, arith, length-append, slice_index, get_or-eq_default, mul-add, get_or-le-sum_by, All-append, Grid, sites, missing, IsSettled, lost, occurrences, topplings, PileView, IsPile, height_of, most_grains, most_grains_on, sum_below-add, sum_below_same, occurrences-append, sum_is_grains, laplacian_sum, settled_in_parts, topplings_bound, SettledView, IsSettledRecord, IsSomeSettledRecord, odometer_of, RecordView, IsOneThreads}
use Rattle.sand_shared.proofs.Balance.{grains_in_all}

-- a start and a history, with the heights and the odometer that they lead to
pub record LeadsTo (start : PileView) (history heights odometer : List ℕ) : Type 0 where
  pub pile : IsPile start
  pub all_sites : All (λ i. i < sites start.grid) history
  pub limit : sum start.heights + length history ≤ most_grains_on start.grid
  pub heights_each : length heights ≡ sites start.grid
  pub odometer_each : length odometer ≡ sites start.grid
  pub settled : IsSettled start.grid (λ i. height_of start i + occurrences history i)
      (slice_index odometer) (slice_index heights)

module _ {start : PileView} {history heights odometer : List ℕ} (l : LeadsTo start history heights odometer) where
  pub few_topplings : sum odometer < 2 ^ 54
  few_topplings =
      let g = start.grid in
      let all = grains_in_all start history l.pile l.all_sites in
      let bound = topplings_bound g (λ i. height_of start i + occurrences history i)
      (slice_index odometer) (slice_index heights) (omega arith) l.settled.toppled in
      let counts = sum_is_grains g odometer l.odometer_each in omega arith

  -- each grain is on the pile or lost
  pub grains_left : sum start.heights + length history ≡ sum heights + lost start.grid (slice_index odometer)
  grains_left =
      let g = start.grid in
      let all = grains_in_all start history l.pile l.all_sites in
      let out = laplacian_sum g (λ i. height_of start i + occurrences history i)
      (slice_index odometer) (slice_index heights) l.settled.toppled in
      let after = sum_is_grains g heights l.heights_each in omega arith

  pub one_threads : (r : SettledView)
      → r.pile.grid ≡ start.grid → r.pile.heights ≡ heights
      → r.odometer ≡ odometer → r.topplings ≡ sum odometer
      → r.lost ≡ (sum start.heights + length history) - sum heights
      → IsOneThreads record { start = start; history = history; settled = r }
  one_threads r grid heights_are odometer_is toppled gone =
      let g = start.grid in
      let left = grains_left in
      record {
        start_pile = l.pile;
        all_sites = l.all_sites;
        limit = l.limit;
        settled = record {
          grid = grid;
          heights_each = ap (λ (xs : List ℕ). length xs) heights_are ∙ l.heights_each;
          odometer_each = ap (λ (xs : List ℕ). length xs) odometer_is ∙ l.odometer_each;
          settled = subst (λ (z : List ℕ × List ℕ).
              IsSettled g (λ i. height_of start i + occurrences history i) (slice_index z.0) (slice_index z.1))
              (λ i. (sym odometer_is i, sym heights_are i)) l.settled;
          all_topplings = toppled ∙ sum_is_grains g odometer l.odometer_each
              ∙ ap (λ (xs : List ℕ). topplings g (slice_index xs)) (sym odometer_is);
          all_lost = let same = ap (λ (xs : List ℕ). lost g (slice_index xs)) odometer_is in omega arith;
        };
        kept = (let same = ap (λ (xs : List ℕ). sum xs) heights_are in omega arith);
      }

leads_of : (r : RecordView) → IsPile r.start → All (λ i. i < sites r.start.grid) r.history
    → sum r.start.heights + length r.history ≤ most_grains_on r.start.grid
    → IsSettledRecord r.start.grid (λ i. height_of r.start i + occurrences r.history i) r.settled
    → LeadsTo r.start r.history r.settled.pile.heights r.settled.odometer
leads_of r pile inside limit settled = record {
  pile = pile;
  all_sites = inside;
  limit = limit;
  heights_each = settled.heights_each;
  odometer_each = settled.odometer_each;
  settled = settled.settled;
}

-- the settled record of a start and a history keeps all grains
pub is_one_threads : (r : RecordView) → IsPile r.start → All (λ i. i < sites r.start.grid) r.history
    → sum r.start.heights + length r.history ≤ most_grains_on r.start.grid
    → IsSettledRecord r.start.grid (λ i. height_of r.start i + occurrences r.history i) r.settled
    → IsOneThreads r
is_one_threads r pile inside limit settled =
    let left = grains_left (leads_of r pile inside limit settled) in
    record { start_pile = pile; all_sites = inside; limit = limit; settled = settled; kept = omega arith }

-- how small the numbers of a record are
few_in_all : (r : RecordView) → IsOneThreads r → sum r.settled.odometer < 2 ^ 54
few_in_all r one = few_topplings (leads_of r one.start_pile one.all_sites one.limit one.settled)

pub settled_record : (r : RecordView) → IsOneThreads r → IsSomeSettledRecord r.settled
settled_record r one =
    let s : ℕ → ℕ = λ i. height_of r.start i + occurrences r.history i in
    (s, subst (λ (g : Grid). IsSettledRecord g s r.settled) (sym one.settled.grid) one.settled)

pub small_entries : (r : RecordView) → IsOneThreads r → (i : ℕ) → odometer_of r.settled i < 2 ^ 54
small_entries r one i =
    let few = few_in_all r one in
    let inside = get_or-le-sum_by (λ (x : ℕ). x) r.settled.odometer i 0 in
    let past = get_or-eq_default r.settled.odometer 0 {n = i} in grind (arith, few, inside, past)

pub small_topplings : (r : RecordView) → IsOneThreads r → r.settled.topplings < 2 ^ 54
small_topplings r one =
    omega (arith, few_in_all r one, sum_is_grains r.start.grid r.settled.odometer one.settled.odometer_each)

pub small_lost : (r : RecordView) → IsOneThreads r → r.settled.lost ≤ most_grains
small_lost r one = omega arith

-- the second record starts from the pile of the first, and sums are their odometers, added site by site
pub record AreJoined (r q : RecordView) (sums : List ℕ) : Type 0 where
  pub first : IsOneThreads r
  pub second : IsOneThreads q
  pub joint : q.start ≡ r.settled.pile
  pub limit : sum r.start.heights + (length r.history + length q.history) ≤ most_grains_on r.start.grid
  pub len : length sums ≡ length r.settled.odometer
  pub each : (i : ℕ) → i < length q.settled.odometer
      → slice_index sums i ≡ odometer_of r.settled i + odometer_of q.settled i

-- the record of both histories, one after the other
abbrev pub both : RecordView → RecordView → List ℕ → RecordView
both r q sums = record {
  start = r.start;
  history = r.history ++ q.history;
  settled = record {
    pile = q.settled.pile;
    odometer = sums;
    topplings = r.settled.topplings + q.settled.topplings;
    lost = r.settled.lost + q.settled.lost;
  };
}

-- settling in two parts is settling at once
module _ (r q : RecordView) (sums : List ℕ) (joined : AreJoined r q sums) where
  same_grid : q.start.grid ≡ r.start.grid
  same_grid = ap (λ (p : PileView). p.grid) joined.joint ∙ joined.first.settled.grid

  all_each : (i : ℕ) → slice_index sums i ≡ odometer_of r.settled i + odometer_of q.settled i
  all_each i =
      let grids = ap sites same_grid in
      let each = joined.each i in
      let a = get_or-eq_default sums 0 {n = i} in
      let b = get_or-eq_default r.settled.odometer 0 {n = i} in
      let c = get_or-eq_default q.settled.odometer 0 {n = i} in grind (arith, grids, each, a, b, c)

  both_settled : IsSettled r.start.grid (λ i. height_of r.start i + occurrences (r.history ++ q.history) i)
      (slice_index sums) (height_of q.settled.pile)
  both_settled =
      let g = r.start.grid in
      let later = subst (λ (z : Grid × PileView).
      IsSettled z.0 (λ i. height_of z.1 i + occurrences q.history i) (odometer_of q.settled) (height_of q.settled.pile))
      (λ i. (same_grid i, joined.joint i)) joined.second.settled.settled in
      let all =
      settled_in_parts g (λ i. height_of r.start i + occurrences r.history i) (occurrences q.history) (odometer_of r.settled)
      (height_of r.settled.pile) (odometer_of q.settled) (height_of q.settled.pile) joined.first.settled.settled later in
      let drops : (i : ℕ)
      → (height_of r.start i + occurrences r.history i) + occurrences q.history i
      ≡ height_of r.start i + occurrences (r.history ++ q.history) i =
      λ i. (let e = occurrences-append r.history q.history i in omega arith) in
      subst
      (λ (z : (ℕ → ℕ) × (ℕ → ℕ)). IsSettled g z.0 z.1 (height_of q.settled.pile))
      (λ k. ((λ i. drops i k), (λ i. sym (all_each i) k))) all

  pub followed : IsOneThreads (both r q sums)
  followed =
      let g = r.start.grid in
      let grids = same_grid in
      let tops = sum_below-add (sites g) (odometer_of r.settled) (odometer_of q.settled) in
      let sums_are = sum_below_same (sites g) (slice_index sums)
      (λ i. odometer_of r.settled i + odometer_of q.settled i) (λ i _. all_each i) in
      let outs = sum_below-add (sites g) (λ i. missing g i * odometer_of r.settled i)
      (λ i. missing g i * odometer_of q.settled i) in
      let outs_are = sum_below_same (sites g)
      (λ i. missing g i * slice_index sums i)
      (λ i. missing g i * odometer_of r.settled i + missing g i * odometer_of q.settled i)
      (λ i _. ap (λ n. missing g i * n) (all_each i)
      ∙ mul-add (missing g i) (odometer_of r.settled i) (odometer_of q.settled i)) in
      let tops_later =
      subst (λ z. q.settled.topplings ≡ topplings z (odometer_of q.settled)) grids joined.second.settled.all_topplings in
      let lost_later = subst (λ z. q.settled.lost ≡ lost z (odometer_of q.settled)) grids joined.second.settled.all_lost in
      is_one_threads (both r q sums) joined.first.start_pile
      (All-append (λ i. i < sites g) r.history q.history joined.first.all_sites
      (subst (λ z. All (λ i. i < sites z) q.history) grids joined.second.all_sites))
      (let e = length-append r.history q.history in omega arith)
      record {
        grid = joined.second.settled.grid ∙ grids;
        heights_each = joined.second.settled.heights_each ∙ ap sites grids;
        odometer_each = joined.len ∙ joined.first.settled.odometer_each;
        settled = both_settled;
        all_topplings = omega arith;
        all_lost = omega arith;
      }

  pub joined_topplings : sum sums ≡ r.settled.topplings + q.settled.topplings
  joined_topplings =
      let all = followed.settled.all_topplings in
      let counts = sum_is_grains r.start.grid sums (joined.len ∙ joined.first.settled.odometer_each) in omega arith
