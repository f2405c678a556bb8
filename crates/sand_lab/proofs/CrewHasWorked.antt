-- What each member of a crew may do, and what it has done afterwards.
use Rattle.sand_lab.proofs.Common.{◌≡◌, ℕ, zero, suc, ◌+◌, ◌-◌, ◌*◌, ◌/◌, ◌<◌, ◌≤◌, List, [], ◌∷◌, All, length, take, drop, sum, sum_by, get_or, refl, sym, ap, ◌∙◌, subst, arith, slice_index, height_of, get_or-take, get_or-drop, length-replicate, length-take, sum_by-cons, zeros, grid_of_terms, toppled_by, SharedView, PassView, IsPassOf, at_rest, count_of, LeavesAtMost, AllZip, Crew, Dropper, Observer, Wish, Worker, EachAt, band, due, rowless, banded, IsDropper, IsWorker, IsObserver, IsCrew, HasDroppedItsStream, HasSweptItsBand, HasReadItsTallies, HasWorked, CanDrop, CanSweep, CanTally, TookDropTurns, TookSweepTurns, TookTallyTurns, Climbs, Reading, stream_sites}
use Rattle.sand_shared.specs.declared.rows.Rows.{Rows}
use Rattle.std.proofs.lemmas.Slice.Zip.{AllZip-long}
use Rattle.sand_shared.proofs.Lawfulness.{get-zeros}
use Rattle.std.proofs.lemmas.Bool.Decides.{nat_tests}
use Rattle.sand_lab.proofs.EachAtItsPlace.{each_zip}

-- a pass with the table and the grid of a pile belongs to it
of_pile : (s : SharedView) (p q : PassView) → p ≡ q → q.table ≡ s.table → q.grid ≡ grid_of_terms s.terms → IsPassOf s p
of_pile s p q e table grid =
    record { table = ap (λ (x : PassView). x.table) e ∙ table; grid = ap (λ (x : PassView). x.grid) e ∙ grid }

pub can_drop : (s : SharedView) (w : Wish) (t k : ℕ) (d : Dropper) → IsDropper s w t k d → CanDrop s w.drops d
can_drop s w t k d is = record {
  of_pile = of_pile s d.pass (rowless s w.drops) is.pass refl refl;
  left = ap (λ (p : PassView). p.left) is.pass;
  no_receipts = ap (λ (p : PassView). p.receipts) is.pass;
  unread = ap (λ (r : Reading). r.read) is.sites;
  grid = ap (λ (r : Reading). r.sites) is.sites;
  none_read = is.none_read;
  room = is.room;
  counts = is.counts;
}

sum_zeros : (n : ℕ) → sum (zeros n) ≡ 0
sum_zeros zero = refl
sum_zeros (suc n) = sum_zeros n

pub can_sweep : (s : SharedView) (n j : ℕ) (x : Worker) → IsWorker s n j x → CanSweep s x
can_sweep s n j x is = record {
  of_pile = of_pile s x.pass (banded s (band (grid_of_terms s.terms).height n j)) is.pass refl refl;
  swept = is.swept ∙ sym (ap (λ (p : PassView). sum p.counts) is.pass
      ∙ sum_zeros (count_of (band (grid_of_terms s.terms).height n j) * (grid_of_terms s.terms).width));
}

pub can_tally : (s : SharedView) (i : ℕ) (o : Observer) → IsObserver s i o → CanTally s 16 o
can_tally s i o is =
    record { of_pile = of_pile s o.pass (rowless s 0) is.pass refl refl; no_tallies = is.tallies; room = is.room }

pub can_sweep_on : (s : SharedView) (w : Wish) (j : ℕ) (x : Worker) → HasSweptItsBand s w j x → CanSweep s x
can_sweep_on s w j x is = record {
  of_pile =
      of_pile s x.pass (record (banded s (band (grid_of_terms s.terms).height w.workers j)) { counts = x.pass.counts })
      is.pass refl refl;
  swept = is.swept;
}

pub dropped_its_stream : (s : SharedView) (w : Wish) (t k : ℕ) (d e : Dropper)
    → IsDropper s w t k d → TookDropTurns s w.drops d e
    → HasDroppedItsStream s w t k e
dropped_its_stream s w t k d e is has = record {
  pass =
      has.kept ∙ ap (λ (p : PassView). record p { left = 0; seen = e.pass.seen; receipts = e.pass.receipts }) is.pass;
  sites = has.sites ∙ ap (λ (r : Reading). stream_sites r.sites r.seed r.stream w.drops) is.sites;
  ascends = has.ascends;
  within = has.within;
}

-- if each number, through f, is at most the one at its index in another list, so is the sum
pub sums_up : (f : ℕ → ℕ) (xs ys : List ℕ) → ((j : ℕ) → j < length xs → f (get_or xs j 0) ≤ get_or ys j 0)
    → sum_by f xs ≤ sum ys
sums_up f [] ys up = omega arith
sums_up f (x ∷ xs) [] up =
    let first = up 0 (omega arith) in
    let rest = sums_up f xs [] (λ j lt. up (suc j) (omega (arith, lt))) in
    omega (arith, first, rest, sum_by-cons f x xs)
sums_up f (x ∷ xs) (y ∷ ys) up =
    let first = up 0 (omega arith) in
    let rest = sums_up f xs ys (λ j lt. up (suc j) (omega (arith, lt))) in
    omega (arith, first, rest, sum_by-cons f x xs, sum_by-cons (λ n. n) y ys)

-- if nothing had toppled, n is at least the height div 4
few_left : (s : SharedView) (v : PassView) (i n : ℕ)
    → LeavesAtMost s.terms (at_rest v) i (4 * n + 3) → toppled_by (at_rest v) i ≡ 0
    → height_of s.terms.start i / 4 ≤ n
few_left s v i n most none = omega arith

none_toppled : (v : PassView) (n i : ℕ) → v.counts ≡ zeros n → toppled_by (at_rest v) i ≡ 0
none_toppled v n i e =
    let zero_there = ap (λ (cs : List ℕ). get_or cs (i - v.rows.first * v.grid.width) 0) e ∙ get-zeros n _ in
    grind (arith, nat_tests, zero_there)

-- a worker that sweeps at least once does what is due
due_swept : (s : SharedView) (rows : Rows) (turns : ℕ) (w x : Worker)
    → w.pass ≡ banded s rows → 0 < turns → TookSweepTurns s turns w x
    → due s.terms.start rows ≤ x.swept
due_swept s rows turns w x is some has =
    let width = (grid_of_terms s.terms).width in
    let many = count_of rows * width in
    let first = rows.first * width in
    let hs = take many (drop first s.terms.start.heights) in
    let at_most : length hs ≤ many = omega (arith, length-take many (drop first s.terms.start.heights)) in
    let long : length w.pass.counts ≡ many = ap (λ (p : PassView). length p.counts) is ∙ length-replicate many 0 in
    let base : (at_rest w.pass).base ≡ first = ap (λ (p : PassView). p.rows.first * p.grid.width) is in
    let each : (j : ℕ) → j < length hs → get_or hs j 0 / 4 ≤ get_or x.pass.counts j 0 = λ j lt.
    let inside : j < many = omega (arith, lt, at_most) in
    let there : get_or hs j 0 ≡ height_of s.terms.start (first + j) =
    get_or-take many (drop first s.terms.start.heights) j 0 inside ∙ get_or-drop first s.terms.start.heights j 0 in
    let none : toppled_by (at_rest w.pass) (first + j) ≡ 0 =
    none_toppled w.pass many (first + j) (ap (λ (p : PassView). p.counts) is) in
    let most = subst (λ (b : ℕ).
    LeavesAtMost s.terms (at_rest w.pass) (b + j) (4 * (slice_index x.pass.counts j - slice_index w.pass.counts j) + 3))
    base (has.enough some j (omega (arith, inside, long))) in
    let enough = few_left s w.pass (first + j) (slice_index x.pass.counts j - slice_index w.pass.counts j) most none in
    omega (arith, enough, ap (λ (h : ℕ). h / 4) there) in
    omega (arith, sums_up (λ h. h / 4) hs x.pass.counts each, has.can.swept)

pub swept_its_band : (s : SharedView) (w : Wish) (j : ℕ) (x y : Worker)
    → IsWorker s w.workers j x → TookSweepTurns s w.sweeps x y
    → HasSweptItsBand s w j y
swept_its_band s w j x y is has = record {
  pass = has.kept ∙ ap (λ (p : PassView). record p { counts = y.pass.counts }) is.pass;
  swept = has.can.swept;
  enough = λ some. due_swept s (band (grid_of_terms s.terms).height w.workers j) w.sweeps x y is.pass some has;
}

-- another round undoes nothing
pub swept_more : (s : SharedView) (w : Wish) (j turns : ℕ) (x y : Worker)
    → HasSweptItsBand s w j x → TookSweepTurns s turns x y → HasSweptItsBand s w j y
swept_more s w j turns x y is has = record {
  pass = has.kept ∙ ap (λ (p : PassView). record p { counts = y.pass.counts }) is.pass;
  swept = has.can.swept;
  enough = λ some.
      let more = sums_up (λ n. n) x.pass.counts y.pass.counts (λ j lt. has.never_fall j) in
      omega (arith, is.enough some, is.swept, has.can.swept, more);
}

climbs_to : (from top most : ℕ) (ns : List ℕ) → Climbs from ns top → from ≤ most → All (λ n. n ≤ most) ns
    → Climbs from ns most
climbs_to from top most [] h le all = le
climbs_to from top most (n ∷ ns) h le all =
    (h.0, climbs_to n top most ns h.1 (all 0 0 (omega arith)) (λ k d lt. all (suc k) d (omega (arith, lt))))

pub read_its_tallies : (s : SharedView) (i : ℕ) (o p : Observer) → IsObserver s i o → TookTallyTurns s 16 o p
    → HasReadItsTallies s i p
read_its_tallies s i o p is has = record {
  pass = has.kept ∙ ap (λ (q : PassView). record q { seen = p.pass.seen }) is.pass;
  sixteen = has.as_many;
  climbs = climbs_to 0 p.pass.seen s.terms.quota p.tallies.items has.climbs (omega arith) has.within;
}

-- what a crew has done
pub worked : (s : SharedView) (w : Wish) (t : ℕ) (c d : Crew) → IsCrew s w t c
    → AllZip (TookDropTurns s w.drops) c.droppers.items d.droppers.items
    → AllZip (TookSweepTurns s w.sweeps) c.workers.items d.workers.items
    → AllZip (TookTallyTurns s 16) c.observers.items d.observers.items
    → HasWorked s w t d
worked s w t c d is dropped swept tallied = record {
  droppers = each_zip (IsDropper s w t) (HasDroppedItsStream s w t) (TookDropTurns s w.drops)
      c.droppers.items d.droppers.items is.droppers dropped (dropped_its_stream s w t);
  all_droppers = AllZip-long (TookDropTurns s w.drops) c.droppers.items d.droppers.items dropped ∙ is.all_droppers;
  workers = each_zip (IsWorker s w.workers) (HasSweptItsBand s w) (TookSweepTurns s w.sweeps)
      c.workers.items d.workers.items is.workers swept (swept_its_band s w);
  all_workers = AllZip-long (TookSweepTurns s w.sweeps) c.workers.items d.workers.items swept ∙ is.all_workers;
  observers = each_zip (IsObserver s) (HasReadItsTallies s) (TookTallyTurns s 16)
      c.observers.items d.observers.items is.observers tallied (read_its_tallies s);
  all_observers = AllZip-long (TookTallyTurns s 16) c.observers.items d.observers.items tallied ∙ is.all_observers;
}

-- and after another round of its workers
pub worked_on : (s : SharedView) (w : Wish) (t turns : ℕ) (c d : Crew)
    → HasWorked s w t c
    → AllZip (TookSweepTurns s turns) c.workers.items d.workers.items
    → d.droppers ≡ c.droppers → d.observers ≡ c.observers → HasWorked s w t d
worked_on s w t turns c d has swept same also = record {
  droppers = subst (λ v. EachAt (HasDroppedItsStream s w t) v.items) (sym same) has.droppers;
  all_droppers = ap (λ v. length v.items) same ∙ has.all_droppers;
  workers = each_zip (HasSweptItsBand s w) (HasSweptItsBand s w) (TookSweepTurns s turns)
      c.workers.items d.workers.items has.workers swept (λ j x y. swept_more s w j turns x y);
  all_workers = AllZip-long (TookSweepTurns s turns) c.workers.items d.workers.items swept ∙ has.all_workers;
  observers = subst (λ v. EachAt (HasReadItsTallies s) v.items) (sym also) has.observers;
  all_observers = ap (λ v. length v.items) also ∙ has.all_observers;
}
