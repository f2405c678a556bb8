-- A pass that has gathered everything: its history and its record. If it has swept until nothing toppled, the heights
-- of the last open pile are the settled pile of the start and all drops, and its counts are the least odometer. If one
-- thread settles the rest, the counts plus the odometer of the rest are that odometer.
use Rattle.sand_shared.proofs.Common.{◌≡◌, ℕ, ◌+◌, ◌-◌, ◌<◌, ◌≤◌, List, All, length, sum, sym, refl, ap, ◌∙◌, subst, arith, slice_index, Me, sites, Grid, IsToppled, occurrences, IsSettled, IsUnderway, grains, height_of, most_grains_on, PileView, settled_same, laplacian_sum, settles_after, odometer_of, SettledView, IsSettledRecord, Inside, View, Receipt, Terms, nobody, grid_of_terms, receipts_for, toppled_by, start_and_drawn, shown, IsBare, PassView, SharedView, AllBelow, IsPass, IsPassOf, IsWhole, at_rest, looked, RecordView, Tells, IsLast, IsOneThreads, IsRecordOf, IsCompleted, Stands, HasAll, IsCalm, start_and_receipts, with_counts, IsRestOf, sum_below_same, sum_is_grains, topplings_bound, at_most_sum_below}
use Rattle.sand_model.specs.Sand.{topplings as topplings_of, lost as lost_of}
use Rattle.sand_model.proofs.Underway.{underway_end}
use Rattle.sand_shared.proofs.GrainsAtSite.{toppled_from}
use Rattle.sand_shared.proofs.PassKnowsPile.{knows_all, left_exactly, stands_sparing}
use Rattle.sand_shared.proofs.ReceiptsTellHistory.{history_is, all_seen}
use Rattle.sand_shared.proofs.RecordSums.{LeadsTo}
use Rattle.sand_shared.proofs.WholeHasAll.{whole_base, whole_counts, swept_has_all}
use Rattle.sand_shared.proofs.Lawfulness.{few_grains}

-- a history is that of some receipts on a pile with these terms
pub record HasHistory (t : Terms) (receipts : List Receipt) (history : List ℕ) : Type 0 where
  pub all_sites : All (λ i. i < sites (grid_of_terms t)) history
  pub limit : sum t.start.heights + length history ≤ most_grains_on t.start.grid
  pub by_site : (i : ℕ) → occurrences history i ≡ receipts_for receipts i

module _ {t : Terms} {a : ℕ} {v : View} (s : Stands t a v) (all : HasAll t v) where
  -- all numbers are in its receipts, so a history that these tell is the pile's
  has_history : (history : List ℕ) → length history ≡ length v.receipts → Tells v.receipts history
      → HasHistory t v.receipts history
  has_history history long told =
      let k = knows_all s all in
      let is = history_is v.receipts s.pile.drawn k.numbers history (long ∙ k.receipts) told
      (subst (λ (u : View). Tells u.receipts s.pile.drawn) s.pass (s.lawful.passes a nobody s.there).receipts) in
      subst (HasHistory t v.receipts) (sym is)
      record { all_sites = s.lawful.all_sites; limit = omega arith; by_site = k.drops }

  -- all numbers are in its receipts and below what it has seen, so it has seen all drops
  seen_is : AllBelow v.seen v.receipts → v.seen ≡ length v.receipts
  seen_is below =
      let k = knows_all s all in
      let most = (s.lawful.passes a nobody s.there).seen in
      omega (arith, ap (λ (u : View). u.seen) s.pass, all_seen v.receipts s.pile.drawn k.numbers v.seen below)

-- a pass that has gathered everything
pub record HasGathered (t : Terms) (p : PassView) : Type 0 where
  pub grid : p.grid ≡ grid_of_terms t
  pub whole : IsWhole t p
  pub pass : IsPass p

pub gathered : {w : SharedView} {x : Inside} {p : PassView} → shown x ≡ p → IsBare x → IsPassOf w p → IsWhole w.terms p
    → HasGathered w.terms p
gathered is inv of_pile whole = record { grid = of_pile.grid; whole = whole; pass = subst IsPass is inv.pass }

-- its seat has some counts of its rows, and nothing in hand
module _ {t : Terms} {p : PassView} {counts : List ℕ} {a spot least : ℕ} (b : HasGathered t p)
    (s : Stands t a (record (at_rest p) { counts = counts; spot = spot; least = least }))
    (long : length counts ≡ length p.counts) where
  pub gathers_all : HasAll t (record (at_rest p) { counts = counts; spot = spot; least = least })
  gathers_all = swept_has_all t p b.grid b.pass.len b.whole counts spot least long

  pub gathered_history : (history : List ℕ) → length history ≡ length p.receipts → Tells p.receipts history
      → HasHistory t p.receipts history
  gathered_history = has_history s gathers_all

  pub gathered_seen : p.seen ≡ length p.receipts
  gathered_seen = seen_is s gathers_all b.pass.below

  -- a record of such a history
  pub gathered_record : (r : RecordView) → IsOneThreads r → r.start ≡ t.start
      → length r.history ≡ length p.receipts → Tells p.receipts r.history
      → ((i : ℕ) → slice_index p.counts i ≤ odometer_of r.settled i)
      → IsRecordOf t p r
  gathered_record r one start each told never = record {
    one_threads = one;
    start = start;
    history = told;
    each_drop_once = each;
    each_number_once = b.pass.once;
    all_seen = gathered_seen ∙ sym each;
    by_site = (gathered_history r.history each told).by_site;
    never_fall = never;
  }

-- the counts of a whole pass, by site
pub toppled_is : (t : Terms) (p : PassView) (counts : List ℕ) → HasGathered t p → (i : ℕ)
    → toppled_by (with_counts (at_rest p) counts) i ≡ slice_index counts i
toppled_is t p counts b i =
    let base = whole_base t p b.grid b.pass.len b.whole in
    toppled_from (with_counts (at_rest p) counts) i (omega arith)
    ∙ ap (slice_index counts) {x = i - (at_rest p).base} {y = i} (omega arith)

-- a pass that has gathered everything has swept until nothing toppled, and the table is closed with its seat
pub record IsClosedBy (t : Terms) (p : PassView) (counts heights : List ℕ) (a spot least : ℕ) : Type 0 where
  pub last : IsLast t a (record (at_rest p) { counts = counts; spot = spot; least = least }) heights
  pub all : HasGathered t p
  pub same_rows : length counts ≡ length p.counts
  pub calm : IsCalm t (with_counts (at_rest p) counts)

pub closed_by : {w w' : SharedView} {p' : PassView} {x : Inside} {a : ℕ} {v : View} {counts heights : List ℕ}
    → w ≡ w' → shown x ≡ p' → IsBare x → IsPassOf w' p' → IsWhole w'.terms p'
    → IsLast w.terms a v heights
    → v ≡ record (looked x.seat.me.0 v.spot v.least) { counts = counts }
    → length counts ≡ length x.counts.items
    → IsCalm w.terms (with_counts x.seat.me.0 counts)
    → IsClosedBy w'.terms p' counts heights a v.spot v.least
closed_by {w = w} {a = a} {v = v} {counts = counts} {heights = heights} pile_is pass_is inv of_pile whole last swept long calm =
    let me = swept ∙ (λ i. record (looked (inv.me i).0 v.spot v.least) { counts = counts })
    ∙ (λ i. record (at_rest (pass_is i)) { counts = counts; spot = v.spot; least = v.least }) in
    record {
      last = subst (λ (z : Terms × View). IsLast z.0 a z.1 heights) (λ i. ((pile_is i).terms, me i)) last;
      all = gathered pass_is inv of_pile whole;
      same_rows = long ∙ ap (λ (q : PassView). length q.counts) pass_is;
      calm = subst (λ (z : SharedView × PassView). IsCalm z.0.terms (with_counts (at_rest z.1) counts))
          (λ i. (pile_is i, pass_is i)) (subst (λ (m : Me ℕ View). IsCalm w.terms (with_counts m.0 counts)) inv.me calm);
    }

module _ {t : Terms} {p : PassView} {counts heights : List ℕ} {a spot least : ℕ}
    (b : IsClosedBy t p counts heights a spot least) where
  pub closed_leads : (history : List ℕ) → length history ≡ length p.receipts → Tells p.receipts history
      → LeadsTo t.start history heights counts
  closed_leads history each told =
      let g = grid_of_terms t in
      let v = record (at_rest p) { counts = counts; spot = spot; least = least } in
      let s = b.last.stands in
      let all = gathers_all b.all s b.same_rows in
      let h = gathered_history b.all s b.same_rows history each told in
      let base = whole_base t p b.all.grid b.all.pass.len b.all.whole in
      let long = b.same_rows ∙ whole_counts t p b.all.grid b.all.pass.len b.all.whole in
      let left = left_exactly s all refl in
      let toppled : IsToppled g (start_and_receipts t v) (toppled_by v) (slice_index heights) =
      record { balance = λ i l. let e = left.balance i l in let same = b.last.each_height i l in omega arith } in
      let settled = underway_end g (start_and_receipts t v) (toppled_by v) (slice_index heights)
      (record { toppled = toppled; bounded = (stands_sparing s all (omega arith)).needed })
      (λ i l. let e = toppled.balance i l in let low = b.calm i l in omega arith) in
      record {
        pile = s.terms.pile;
        all_sites = h.all_sites;
        limit = h.limit;
        heights_each = b.last.len;
        odometer_each = long;
        settled = settled_same g (start_and_receipts t v) (λ i. height_of t.start i + occurrences history i)
            (toppled_by v) (slice_index counts) (slice_index heights) (slice_index heights)
            (λ i l. let e = h.by_site i in omega arith) (λ i l. toppled_is t p counts b.all i) (λ i l. refl) settled;
      }

module _ {t : Terms} {a : ℕ} {v : View} (s : Stands t a v) (all : HasAll t v) where
  laid_few : grains (grid_of_terms t) (start_and_receipts t v) ≤ most_grains_on (grid_of_terms t)
  laid_few =
      let g = grid_of_terms t in
      let p = s.pile in
      let same = sum_below_same (sites g) (start_and_receipts t v)
      (start_and_drawn t p) (λ i _. let d = (knows_all s all).drops i in omega arith) in
      let all = few_grains t p s.terms s.lawful in omega arith

  pub left_few : (u : ℕ → ℕ) (heights : List ℕ)
      → length heights ≡ sites (grid_of_terms t)
      → IsToppled (grid_of_terms t) (start_and_receipts t v) u (slice_index heights)
      → sum heights ≤ most_grains_on (grid_of_terms t)
  left_few u heights long toppled =
      let few = laid_few in
      let out = laplacian_sum (grid_of_terms t) (start_and_receipts t v) u (slice_index heights) toppled in
      let all_of = sum_is_grains (grid_of_terms t) heights long in omega arith

  pub is_underway : v.base + length v.counts ≤ sites (grid_of_terms t)
      → (h : ℕ → ℕ) → IsToppled (grid_of_terms t) (start_and_receipts t v) (toppled_by v) h
      → IsUnderway (grid_of_terms t) (start_and_receipts t v) (toppled_by v) h
  is_underway fits h toppled = record { toppled = toppled; bounded = (stands_sparing s all fits).needed }

-- the seat of a bare pass, after a load that is no event
pub stands_bare : {w w' : SharedView} {p : PassView} {x : Inside} {a : ℕ} {v : View}
    → w ≡ w' → shown x ≡ p → IsBare x → v ≡ x.seat.me.0 → Stands w.terms a v
    → Stands w'.terms a (record (at_rest p) { spot = x.seat.me.0.spot; least = x.seat.me.0.least })
stands_bare {x = x} {a = a} pile_is pass_is inv kept =
    let me = kept ∙ (λ i. (inv.me i).0)
    ∙ (λ i. record (at_rest (pass_is i)) { spot = x.seat.me.0.spot; least = x.seat.me.0.least }) in
    subst (λ (z : Terms × View). Stands z.0 a z.1) (λ i. ((pile_is i).terms, me i))

-- a pass that has gathered everything, and the settled rest of its pile
pub completed_leads : {t : Terms} {p : PassView} {r : SettledView} {a spot least : ℕ} → HasGathered t p
    → Stands t a (record (at_rest p) { spot = spot; least = least }) → IsRestOf t p r → (history : List ℕ)
    → length history ≡ length p.receipts → Tells p.receipts history
    → IsCompleted t.start history p.counts r
completed_leads {t = t} {p = p} {r = r} b s rest history each told =
    let g = grid_of_terms t in
    let u : ℕ → ℕ = λ i. slice_index p.counts i + odometer_of r i in
    let h = gathered_history b s refl history each told in
    let bound = topplings_bound g (start_and_receipts t (at_rest p)) u (height_of r.pile)
    (laid_few s (gathers_all b s refl)) rest.settled.toppled in
    record {
      all_sites = h.all_sites;
      limit = h.limit;
      heights_each = rest.heights_each;
      counts_each = whole_counts t p b.grid b.pass.len b.whole;
      odometer_each = rest.odometer_each;
      fits = λ i l. (let le = at_most_sum_below (sites g) u i l in omega arith);
      settled = settled_same g (start_and_receipts t (at_rest p)) (λ i. height_of t.start i + occurrences history i)
          u u (height_of r.pile) (height_of r.pile)
          (λ i l. let e = h.by_site i in omega arith) (λ i l. refl) (λ i l. refl) rest.settled;
    }

-- the counts of a whole pass, by site
pub left_underway : (t : Terms) (p : PassView) → HasGathered t p → (h : ℕ → ℕ)
    → IsUnderway (grid_of_terms t) (start_and_receipts t (at_rest p)) (toppled_by (at_rest p)) h
    → IsUnderway (grid_of_terms t) (start_and_receipts t (at_rest p)) (slice_index p.counts) h
left_underway t p b h = subst (λ (f : ℕ → ℕ). IsUnderway (grid_of_terms t) (start_and_receipts t (at_rest p)) f h)
    (λ k i. toppled_is t p p.counts b i k)

pub rest_of : (t : Terms) (p : PassView) (q : PileView) (r : SettledView)
    → q.grid ≡ grid_of_terms t
    → IsUnderway (grid_of_terms t) (start_and_receipts t (at_rest p)) (slice_index p.counts) (height_of q)
    → IsSettledRecord q.grid (height_of q) r → IsRestOf t p r
rest_of t p q r same under settled = record {
  grid = settled.grid ∙ same;
  heights_each = settled.heights_each ∙ ap sites same;
  odometer_each = settled.odometer_each ∙ ap sites same;
  settled = settles_after (grid_of_terms t) (start_and_receipts t (at_rest p))
      (slice_index p.counts) (height_of q) (odometer_of r) (height_of r.pile) under
      (subst (λ (g : Grid). IsSettled g (height_of q) (odometer_of r) (height_of r.pile)) same settled.settled);
  all_topplings = settled.all_topplings ∙ ap (λ (g : Grid). topplings_of g (odometer_of r)) same;
  all_lost = settled.all_lost ∙ ap (λ (g : Grid). lost_of g (odometer_of r)) same;
}
