-- One more drop on a settled pile, and the result of a list of drops.
use Rattle.sand_settle.proofs.Common.{ℕ, suc, length, ◌≡◌, ◌+◌, ◌*◌, ◌^◌, ◌<◌, ◌≤◌, refl, sym, ◌∙◌, ap, subst, arith, List, [], ◌∷◌, ◌++◌, sum, Option, Some, None, append_assoc, ⊎_elim, MatchOption, cases_lt, length-append, append-nil, Grid, sites, missing, occurrences, one_at, grains, topplings, grain_weight, PileView, IsPile, height_of, most_grains_on, heaviest, sum_below-add, sum_below_both, sum_below_same, laplacian_sum, weight_after, settled_in_parts, settled_same, settled_stable, sum_is_grains, weight_bound, few_weigh, SettledView, IsSettledRecord, IsSomeSettledRecord, odometer_of, DrivenView, IsAfter, topplings_between, TakesGrain, Drops, DropsAll, DropsWith, IsPaid, driven_view, IsOnePile}
use Rattle.std.proofs.lemmas.List.Elements.{All-push}
use Rattle.sand_model.proofs.Occurrences.{occurrences-push}
use Rattle.sand_settle.proofs.OneRecord.{record_by_site, some_record}
use Rattle.sand_settle.proofs.Underway.{topplings_at}
pub use Rattle.sand_fronts.proofs.OnPiles.{avalanche_same}

-- the grains on a settled pile and those lost are the grains of its start
pub grains_kept : {g : Grid} {s : ℕ → ℕ} {r : SettledView} → IsSettledRecord g s r
    → sum r.pile.heights + r.lost ≡ grains g s
grains_kept {g} {s} {r} done = omega (
  arith,
  laplacian_sum g s (odometer_of r) (height_of r.pile) done.settled.toppled,
  sum_is_grains g r.pile.heights done.heights_each,
  done.all_lost,
)

-- ---- the record of a start

pub paid_start : {start : PileView} {r : SettledView} → IsPile start → IsSettledRecord start.grid (height_of start) r
    → IsPaid r
paid_start {start} {r} pile done =
    let g = start.grid in
    let kept = grains_kept done in
    let whole = sum_is_grains g start.heights pile.len in
    record {
      sides = rw done.grid pile.grid;
      heights_each = rw done.grid done.heights_each;
      odometer_each = rw done.grid done.odometer_each;
      stable = rw done.grid (settled_stable g (height_of start) (odometer_of r) (height_of r.pile) done.settled);
      limit = rw done.grid (omega (arith, pile.limit));
      all_topplings = rw done.grid done.all_topplings;
      paid =
          let falls = weight_after g (height_of start) (odometer_of r) (height_of r.pile) done.settled.toppled in
          let heavy = weight_bound g (height_of start) in
          let all = ap (λ n. heaviest g * n) kept in
          rw done.grid (omega (arith, done.all_topplings));
    }

-- the grains pay for all topplings, and no more fit than can pay for 2 ^ 54
pub paid_few : {r : SettledView} → IsPaid r → r.topplings < 2 ^ 54
paid_few {r} paid =
    omega (arith, paid.paid, few_weigh r.pile.grid (sum r.pile.heights + r.lost) paid.limit)

pub after_start : {start : PileView} {r : SettledView} → IsPile start → IsSettledRecord start.grid (height_of start) r
    → IsAfter start [] (driven_view r 0)
after_start {start} {r} pile done = record {
  start_pile = pile;
  all_sites = λ k d l. absurd (omega arith);
  limit = omega (arith, pile.limit);
  settled = record_by_site start.grid (height_of start) (λ j. height_of start j + occurrences [] j) r
      (λ i l. omega arith) done;
  number = refl;
  grains = omega (arith, grains_kept done, sum_is_grains start.grid start.heights pile.len);
}

-- ---- one more grain

one_grain : (g : Grid) (site : ℕ) → site < sites g → grains g (one_at site) ≡ 1
one_grain g site l =
    sum_below_same (sites g) (one_at site) (λ j. 1 * one_at site j) (λ j m. omega arith) ∙ topplings_at g site 1 l

pub grains_after : {r q : SettledView} {site : ℕ} → IsPaid r → site < sites r.pile.grid → TakesGrain r site q
    → sum q.pile.heights + q.lost ≡ sum r.pile.heights + r.lost + 1
grains_after {r} {q} {site} paid inside taken =
    let g = r.pile.grid in
    omega (
      arith,
      laplacian_sum g (λ j. height_of r.pile j + one_at site j) (topplings_between r q) (height_of q.pile)
          taken.settled.toppled,
      sum_below-add (sites g) (height_of r.pile) (one_at site),
      one_grain g site inside,
      sum_is_grains g r.pile.heights paid.heights_each,
      sum_is_grains g q.pile.heights taken.heights_each,
      taken.more_lost,
    )

topplings_after : {r q : SettledView} {site : ℕ} → r.topplings ≡ topplings r.pile.grid (odometer_of r)
    → TakesGrain r site q → q.topplings ≡ topplings r.pile.grid (odometer_of q)
topplings_after {r} {q} before taken =
    let both = sum_below_both (sites r.pile.grid) (odometer_of r) (topplings_between r q) (odometer_of q)
    (λ j l. omega (arith, taken.never_falls j)) in
    omega (arith, taken.more_topplings)

pub paid_after : {r q : SettledView} {site : ℕ} → IsPaid r → site < sites r.pile.grid
    → sum r.pile.heights + r.lost < most_grains_on r.pile.grid → TakesGrain r site q → IsPaid q
paid_after {r} {q} {site} paid inside room taken =
    let g = r.pile.grid in
    let s : ℕ → ℕ = λ j. height_of r.pile j + one_at site j in
    let more = grains_after paid inside taken in
    record {
      sides = rw taken.grid paid.sides;
      heights_each = rw taken.grid taken.heights_each;
      odometer_each = rw taken.grid taken.odometer_each;
      stable = rw taken.grid (settled_stable g s (topplings_between r q) (height_of q.pile) taken.settled);
      limit = rw taken.grid (omega arith);
      all_topplings = rw taken.grid (topplings_after paid.all_topplings taken);
      paid =
          let falls = weight_after g s (topplings_between r q) (height_of q.pile) taken.settled.toppled in
          let both = sum_below_both (sites g) (λ i. height_of r.pile i * grain_weight g i)
          (λ i. one_at site i * grain_weight g i) (λ i. s i * grain_weight g i) (λ i l. omega arith) in
          let one = weight_bound g (one_at site) in
          let grain = ap (λ n. heaviest g * n) (one_grain g site inside) in
          let all = ap (λ n. heaviest g * n) more in
          rw taken.grid (omega (arith, taken.more_topplings, paid.paid));
    }

-- ---- from a start and its drops to one more drop

-- a grain dropped on the settled pile of some heights leads to the record of these heights and the grain
more_here : (s : ℕ → ℕ) {site : ℕ} {r q : SettledView} → IsSettledRecord r.pile.grid s r → TakesGrain r site q
    → IsSettledRecord r.pile.grid (λ j. s j + one_at site j) q
more_here s {site} {r} {q} before taken =
    let g = r.pile.grid in
    let more : ℕ → ℕ = λ j. s j + one_at site j in
    let new = topplings_between r q in
    let counts : (j : ℕ) → odometer_of q j ≡ odometer_of r j + new j = λ j. omega (arith, taken.never_falls j) in
    record {
      grid = taken.grid;
      heights_each = taken.heights_each;
      odometer_each = taken.odometer_each;
      settled = settled_same g more more (λ j. odometer_of r j + new j) (odometer_of q) (height_of q.pile)
          (height_of q.pile) (λ i l. refl) (λ i l. sym (counts i)) (λ i l. refl)
          (settled_in_parts g s (one_at site) (odometer_of r) (height_of r.pile) new (height_of q.pile)
          before.settled taken.settled);
      all_topplings = topplings_after before.all_topplings taken;
      all_lost =
          let both = sum_below_both (sites g) (λ j. missing g j * odometer_of r j) (λ j. missing g j * new j)
          (λ j. missing g j * odometer_of q j) (λ j l. ap (λ n. missing g j * n) (counts j) ∙ omega arith) in
          omega (arith, before.all_lost, taken.more_lost);
    }

record_of_more : {g : Grid} (s : ℕ → ℕ) {site : ℕ} {r q : SettledView} → IsSettledRecord g s r → TakesGrain r site q
    → IsSettledRecord g (λ j. s j + one_at site j) q
record_of_more s {site} {r} {q} before taken =
    subst (λ h. IsSettledRecord h s r → IsSettledRecord h (λ j. s j + one_at site j) q) before.grid
    (λ here. more_here s here taken) before

pub some_record_after : {r q : SettledView} {site : ℕ} → IsSomeSettledRecord r → TakesGrain r site q
    → IsSomeSettledRecord q
some_record_after (s, before) taken = some_record (record_of_more s before taken)

pub after_drop : (start : PileView) (history : List ℕ) (site : ℕ) (v w : DrivenView)
    → Drops v site w → IsAfter start history v
    → IsAfter start (history ++ site ∷ []) w
after_drop start history site v w drop after =
    let longer = length-append history (site ∷ []) in
    let sites_are = ap sites after.settled.grid in
    let before : ℕ → ℕ = λ j. height_of start j + occurrences history j in
    record {
      start_pile = after.start_pile;
      all_sites = All-push (λ j. j < sites start.grid) history site after.all_sites (omega (arith, drop.inside));
      limit = (let same = ap most_grains_on after.settled.grid in omega (arith, drop.room, after.grains));
      settled = record_by_site start.grid (λ j. before j + one_at site j)
          (λ j. height_of start j + occurrences (history ++ site ∷ []) j) w.settled
          (λ j l. omega (arith, occurrences-push history site j)) (record_of_more before after.settled drop.settled);
      number = omega (arith, drop.number, after.number);
      grains = omega (arith, drop.grains, after.grains);
    }

all_after : (start : PileView) (past history : List ℕ) (v w : DrivenView) → IsAfter start past v → DropsAll v history w
    → IsAfter start (past ++ history) w
all_after start past [] v w after same = rw append-nil (subst (IsAfter start past) same after)
all_after start past (site ∷ history) v w after (u, first, rest) =
    subst (λ h. IsAfter start h w) (append_assoc past (site ∷ []) history)
    (all_after start (past ++ site ∷ []) history u w (after_drop start past site v u first after) rest)

pub drops_add_up : (start : PileView) (history : List ℕ) (v w : DrivenView) → IsAfter start [] v → DropsAll v history w
    → IsAfter start history w
drops_add_up start history v w after drops = all_after start [] history v w after drops

-- ---- the pile of one thread after a drop

-- the driven pile of the last drop, or a new one
pub kept_or_new : (R : DrivenView → Type 0) {r : SettledView} {number : ℕ} (driven : Option DrivenView)
    → IsOnePile r driven number → MatchOption driven (R (driven_view r 0)) R → R (driven_view r number)
kept_or_new R {r} {number} None is new =
    subst (λ n. R (driven_view r n)) (⊎_elim (λ (some : 0 < number). let no = is.made some in absurd cc)
    (λ (none : number ≤ 0). omega arith) (cases_lt 0 number)) new
kept_or_new R (Some v) is kept = subst R is.same kept

-- the driven pile after a drop, by its record q
pub view_after : {w : DrivenView} {site number : ℕ} {r q : SettledView} → IsPaid r → Drops (driven_view r number) site w
    → w.settled ≡ q → w ≡ driven_view q w.number
view_after {w} {q = q} paid drop same =
    let grains : w.grains ≡ sum q.pile.heights + q.lost =
    rw (← same) (omega (arith, drop.grains, grains_after paid drop.inside drop.settled)) in
    λ i. record { settled = same i; number = w.number; grains = grains i }

pub drops_from : (number : ℕ) {site : ℕ} {r q : SettledView} {v : DrivenView}
    → IsPaid r → driven_view r number ≡ v → site < sites r.pile.grid
    → sum r.pile.heights + r.lost < most_grains_on r.pile.grid → TakesGrain r site q
    → Drops v site (driven_view q (number + 1))
drops_from number {site} {r} {q} paid seen inside room taken =
    let P : DrivenView → Type 0 = λ u. Drops u site (driven_view q (number + 1)) in
    subst P seen
    (record {
      inside = inside;
      room = room;
      settled = taken;
      number = refl;
      grains = grains_after paid inside taken;
    })

-- ---- lists of drops with their results

module _ {A : Type 0} (Drop : DrivenView → ℕ → A → DrivenView → Type 0) where
  pub drops_join : (v u w : DrivenView) (sites later : List ℕ) (these others : List A)
      → DropsWith Drop v sites these u → DropsWith Drop u later others w
      → DropsWith Drop v (sites ++ later) (these ++ others) w
  drops_join v u w [] later [] others same after =
      let P : DrivenView → Type 0 = λ x. DropsWith Drop x later others w in subst P (sym same) after
  drops_join v u w [] later (a ∷ these) others none after = absurd none
  drops_join v u w (site ∷ sites) later [] others none after = absurd none
  drops_join v u w (site ∷ sites) later (a ∷ these) others (next, first, rest) after =
      (next, first, drops_join next u w sites later these others rest after)

  pub drops_push : (v u w : DrivenView) (sites : List ℕ) (these : List A) (site : ℕ) (a : A)
      → DropsWith Drop v sites these u → Drop u site a w
      → DropsWith Drop v (sites ++ site ∷ []) (these ++ a ∷ []) w
  drops_push v u w sites these site a are has = drops_join v u w sites (site ∷ []) these (a ∷ []) are (w, has, refl)

  pub one_for_each : (v w : DrivenView) (sites : List ℕ) (these : List A)
      → DropsWith Drop v sites these w → length these ≡ length sites
  one_for_each v w [] [] same = refl
  one_for_each v w [] (a ∷ these) none = absurd none
  one_for_each v w (site ∷ sites) [] none = absurd none
  one_for_each v w (site ∷ sites) (a ∷ these) (u, first, rest) = ap suc (one_for_each u w sites these rest)
