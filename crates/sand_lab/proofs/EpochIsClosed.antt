-- A gathered crew makes a whole pass and a closed epoch.
use Rattle.sand_lab.proofs.Common.{◌≡◌, ℕ, suc, ◌*◌, ◌<◌, ◌≤◌, List, [], ◌∷◌, All, length, sum, refl, sym, ap, ◌∙◌, subst, arith, flat_map, slice_index, length-map, All-nil, All-append, sum_by-cons, sum_by-append, slice_get-get_or, sites, sum_below, occurrences, odometer_of, Receipt, grid_of_terms, receipts_for, SharedView, PassView, EachOnce, AllBelow, IsWhole, RecordView, IsOneThreads, IsRecordOf, Crew, Dropper, Entry, Observer, Wish, Worker, EachAt, band, due, tallies_each, HasDroppedItsStream, HasSweptItsBand, HasReadItsTallies, HasWorked, parts_of, all_counts, all_swept, readings, HasGathered, Climbs, Ascends, AreParts, HavePlaces, IsJournal, flattened, receipt_sites, IsPlan, quota_of, AreTallies, AreSwept, IsClosed, stream_of, stream_sites}
use Rattle.std.proofs.lemmas.List.Folds.{flat_map-map}
use Rattle.sand_model.proofs.Heights.{sum_is_grains}
use Rattle.sand_lab.proofs.CrewHasWorked.{sums_up}
use Rattle.sand_lab.proofs.EachNumberOnce.{journal_sites}
use Rattle.sand_lab.proofs.JournalFollowsStreams.{follows_streams, length-parts}
use Rattle.sand_lab.proofs.EachAtItsPlace.{all_map, each_map}
use Rattle.sand_streams.proofs.StreamLengths.{length-stream_sites}
use Rattle.sand_lab.proofs.OccurrencesInStreams.{parts_by_site}

all_flat : {A B : Type 0} (P : ℕ → A → Type 0) (Q : B → Type 0) (f : A → List B) (xs : List A)
    → EachAt P xs → ((i : ℕ) (x : A) → P i x → All Q (f x)) → All Q (flat_map f xs)
all_flat P Q f [] h g = All-nil Q
all_flat P Q f (x ∷ xs) h g = All-append Q (f x) (flat_map f xs) (g 0 x (h 0 x refl))
    (all_flat (λ i. P (suc i)) Q f xs (λ i y e. h (suc i) y e) (λ i y p. g (suc i) y p))

-- what the workers swept is what they toppled
swept_counts : (xs : List Worker) → ((i : ℕ) → EachAt (λ j x. x.swept ≡ sum x.pass.counts) xs)
    → sum (all_swept xs) ≡ sum (all_counts xs)
swept_counts [] each = refl
swept_counts (x ∷ xs) each =
    let one = each 0 0 x refl in
    let rest = swept_counts xs (λ i j y e. each i (suc j) y e) in
    let mine = sum_by-cons (λ n. n) x.swept (all_swept xs) in
    omega (arith, one, rest, mine, sum_by-append (λ n. n) x.pass.counts (all_counts xs))

counts_few : (r : RecordView) (cs : List ℕ) → IsOneThreads r → ((i : ℕ) → slice_index cs i ≤ odometer_of r.settled i)
    → sum cs ≤ r.settled.topplings
counts_few r cs one below =
    let all = sum_is_grains r.start.grid r.settled.odometer one.settled.odometer_each in
    let few = sums_up (λ n. n) cs r.settled.odometer (λ i lt. below i) in
    omega (arith, all, one.settled.all_topplings, few)

module _ {s : SharedView} {w : Wish} {t : ℕ} {c : Crew} {p : PassView}
    (quota : s.terms.quota ≡ quota_of w) (has : HasWorked s w t c) (gathered : HasGathered s c p) where
  pub parts : AreParts w.drops (parts_of c.droppers.items) p.receipts
  parts = record {
    whole = flat_map-map (λ (part : List Receipt). part) (λ (d : Dropper). d.pass.receipts) c.droppers.items
        ∙ sym gathered.receipts;
    len = all_map (HasDroppedItsStream s w t) (λ (part : List Receipt). length part ≡ w.drops)
        (λ (d : Dropper). d.pass.receipts) c.droppers.items has.droppers
        (λ k d h. sym (length-map d.pass.receipts (λ (r : Receipt). r.site)) ∙ ap length h.sites
        ∙ length-stream_sites (sites (grid_of_terms s.terms)) w.seed (stream_of t k) w.drops);
    ascend = all_map (HasDroppedItsStream s w t) Ascends (λ (d : Dropper). d.pass.receipts)
        c.droppers.items has.droppers (λ k d h. h.ascends);
  }

  pub many_parts : length (parts_of c.droppers.items) ≡ w.droppers
  many_parts = length-map c.droppers.items (λ (d : Dropper). d.pass.receipts) ∙ has.all_droppers

  pub all_dropped : length p.receipts ≡ quota_of w
  all_dropped =
      length-parts parts ∙ ap (λ (n : ℕ). n * w.drops) many_parts

  pub within : AllBelow (length p.receipts) p.receipts
  within =
      let flat = all_flat (HasDroppedItsStream s w t) (λ (r : Receipt). r.number < s.terms.quota)
      (λ (d : Dropper). d.pass.receipts) c.droppers.items has.droppers (λ k d h. h.within) in
      let these = subst (AllBelow s.terms.quota) (sym gathered.receipts) flat in
      subst (λ (n : ℕ). AllBelow n p.receipts) (quota ∙ sym all_dropped) these

  pub whole : IsWhole s.terms p
  whole = record {
    quota = omega (arith, gathered.left, all_dropped, quota);
    rows = gathered.rows;
  }

  -- the lists of the droppers' receipts together are all receipts
  pub gathered_parts : (lists : List (List Receipt)) → lists ≡ parts_of c.droppers.items → flattened lists ≡ p.receipts
  gathered_parts lists same = ap flattened same ∙ parts.whole

  -- a journal of all drops has an entry for each
  pub places : (lists : List (List Receipt)) (long : ℕ)
      → lists ≡ parts_of c.droppers.items → long ≡ quota_of w
      → EachOnce p.receipts → IsPlan w → HavePlaces w.drops lists long
  places lists long same all once plan =
      let mine = sym (gathered_parts lists same) in
      record {
        are_parts = record {
          whole = refl;
          len = subst (All (λ part. length part ≡ w.drops)) (sym same) parts.len;
          ascend = subst (All Ascends) (sym same) parts.ascend;
        };
        len = all ∙ sym all_dropped ∙ ap (λ (rs : List Receipt). length rs) mine;
        once = subst EachOnce mine once;
        below = subst (λ (rs : List Receipt). AllBelow (length rs) rs) mine within;
        few_droppers = omega (arith, plan.droppers, ap (λ (ps : List (List Receipt)). length ps) same ∙ many_parts);
      }

  are_tallies : (tallies : List (List ℕ)) → tallies ≡ readings c.observers.items → AreTallies w tallies
  are_tallies tallies e =
      let read = subst (λ (q : ℕ). All (λ ts. Climbs 0 ts q) (readings c.observers.items)) quota
      (all_map (HasReadItsTallies s) (λ ts. Climbs 0 ts s.terms.quota)
      (λ (o : Observer). o.tallies.items) c.observers.items has.observers (λ i o h. h.climbs)) in
      let sixteen = all_map (HasReadItsTallies s) (λ ts. length ts ≡ tallies_each)
      (λ (o : Observer). o.tallies.items) c.observers.items has.observers (λ i o h. h.sixteen) in
      record {
        all = ap length e ∙ length-map c.observers.items (λ (o : Observer). o.tallies.items) ∙ has.all_observers;
        as_many = subst (All (λ ts. length ts ≡ tallies_each)) (sym e) sixteen;
        climb = subst (All (λ ts. Climbs 0 ts (quota_of w))) (sym e) read;
      }

  are_swept : (r : RecordView) (swept : List ℕ) → IsOneThreads r
      → ((i : ℕ) → slice_index p.counts i ≤ odometer_of r.settled i)
      → swept ≡ all_swept c.workers.items → AreSwept w s.terms.start r swept
  are_swept r swept one below e =
      let same : sum (all_swept c.workers.items) ≡ sum (all_counts c.workers.items) =
      swept_counts c.workers.items (λ i j x at. (has.workers j x at).swept) in
      let few = counts_few r p.counts one below in
      let long : length swept ≡ w.workers =
      ap length e ∙ length-map c.workers.items (λ (x : Worker). x.swept) ∙ has.all_workers in
      let each = each_map (HasSweptItsBand s w)
      (λ j n. 0 < w.sweeps → due s.terms.start (band (grid_of_terms s.terms).height w.workers j) ≤ n)
      (λ (x : Worker). x.swept) c.workers.items has.workers (λ j x h. h.enough) in
      record {
        all = long;
        bound = omega (arith, ap (λ (ns : List ℕ). sum ns) e, same, ap (λ (ns : List ℕ). sum ns) gathered.counts, few);
        enough = λ some j lt. subst (λ (ns : List ℕ).
            due s.terms.start (band (grid_of_terms s.terms).height w.workers j) ≤ slice_index ns j) (sym e)
            (each j (slice_index (all_swept c.workers.items) j)
            (slice_get-get_or (all_swept c.workers.items) j 0 (omega (arith, lt, long, ap length e))) some);
      }

  pub closed_is : (r : RecordView) (js : List Entry) (tallies : List (List ℕ)) (swept : List ℕ)
      → IsJournal w.drops (flattened (parts_of c.droppers.items)) js
      → IsRecordOf s.terms p r
      → tallies ≡ readings c.observers.items → swept ≡ all_swept c.workers.items
      → IsClosed w s.terms.start t r js tallies swept
  closed_is r js tallies swept written closed read found =
      let once = closed.each_number_once in
      let journal = subst (λ (rs : List Receipt). IsJournal w.drops rs js) parts.whole written in
      let stream : ℕ → List ℕ = λ k. stream_sites (sites (grid_of_terms s.terms)) w.seed (stream_of t k) w.drops in
      let each = each_map (HasDroppedItsStream s w t) (λ k part. receipt_sites part ≡ stream k)
      (λ (d : Dropper). d.pass.receipts) c.droppers.items has.droppers (λ k d h. h.sites) in
      record {
        one_threads = closed.one_threads;
        from_start = closed.start;
        history =
            journal_sites w.drops p.receipts js r.history journal closed.history once within closed.each_drop_once;
        streams = follows_streams (sites (grid_of_terms s.terms)) w.seed w.droppers w.drops
            t (parts_of c.droppers.items) p.receipts js parts many_parts once within journal each;
        by_site = λ i. closed.by_site i ∙ ap (λ (rs : List Receipt). receipts_for rs i) (sym parts.whole)
            ∙ parts_by_site i stream (parts_of c.droppers.items) each
            ∙ ap (λ n. sum_below n (λ k. occurrences (stream k) i)) many_parts;
        observers = are_tallies tallies read;
        workers = are_swept r swept closed.one_threads closed.never_fall found;
      }
