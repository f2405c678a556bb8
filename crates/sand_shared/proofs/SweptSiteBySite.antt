-- A sweep, site by site.
use Rattle.sand_shared.proofs.Common.{◌≡◌, ℕ, ◌+◌, ◌-◌, ◌*◌, ◌^◌, ◌<◌, ◌≤◌, ◌≢◌, List, length, set, get_or, leb, ltb, sum, sym, refl, ap, ◌∙◌, subst, ⊎_elim, arith, slice_index, ◌&&◌, nat_tests, cases_eq, nil_from_length, length-set, get_or-set_same, get_or-set_other, sum_by-set, sites, flow_le, counted, View, Terms, grid_of_terms, toppled_by, looked, raised, PassView, at_rest, count_of, HasAll, LeavesAtMost, LeavesAtLeast, IsCalm, IsSparing, with_counts, SweptRows, SweptAll, Swept}
use lib.Seq.{set-get_or}
use Rattle.sand_shared.proofs.GrainsAtSite.{place_inside, toppled_from}
use Rattle.sand_shared.proofs.RowPartsAddUp.{none_toppled}
use Rattle.sand_shared.proofs.SitesInTurn.{AllInTurn, one_in_turn}
use Rattle.sand_shared.proofs.WholeHasAll.{swept_has_all}

-- the first k sites of a pass have been swept
pub record Sweeps (t : Terms) (v : View) (cs : List ℕ) (k topplings : ℕ) : Type 0 where
  pub same_rows : length cs ≡ length v.counts
  pub risen : sum cs ≡ sum v.counts + topplings
  pub never_fall : (j : ℕ) → slice_index v.counts j ≤ slice_index cs j
  pub rest : (j : ℕ) → k ≤ j → slice_index cs j ≡ slice_index v.counts j
  pub enough : (j : ℕ) → j < k → LeavesAtMost t v (v.base + j) (4 * (slice_index cs j - slice_index v.counts j) + 3)
  pub idle : topplings ≡ 0 → cs ≡ v.counts
  pub calm : HasAll t v → IsCalm t v → topplings ≡ 0
  pub in_turn : HasAll t v → AllInTurn t v cs k
  pub bound : 0 < k → sum cs < 2 ^ 54
  pub sparing : 0 < k → HasAll t v → IsSparing t (with_counts v cs)

-- the count of the k-th site of its rows
pub toppled-row : (v : View) (k : ℕ) → toppled_by v (v.base + k) ≡ slice_index v.counts k
toppled-row v k = toppled_from v (v.base + k) (omega arith)
    ∙ ap (slice_index v.counts) {x = (v.base + k) - v.base} {y = k} (omega arith)

-- higher counts mean no fewer topplings
toppled_more : (v : View) (cs : List ℕ) → ((j : ℕ) → slice_index v.counts j ≤ slice_index cs j) → (i : ℕ)
    → toppled_by v i ≤ toppled_by (with_counts v cs) i
toppled_more v cs more i = grind (arith, nat_tests, more (i - v.base))

-- the counts only rose, so the bound held before
at_most_before : (t : Terms) (v : View) (cs : List ℕ) (i n : ℕ)
    → i < sites (grid_of_terms t)
    → ((j : ℕ) → slice_index v.counts j ≤ slice_index cs j)
    → toppled_by (with_counts v cs) i ≡ toppled_by v i
    → LeavesAtMost t (with_counts v cs) i n → LeavesAtMost t v i n
at_most_before t v cs i n inside more same left =
    let around = flow_le (grid_of_terms t) (toppled_by v)
    (toppled_by (with_counts v cs)) (λ j _. toppled_more v cs more j) i inside in
    omega arith

-- what a pass knows after its turn at the site i, which toppled it so often
pub record Relieved (t : Terms) (me new : View) (i times : ℕ) : Type 0 where
  pub view : new ≡ record (looked me i new.least) { counts = raised me i times }
  pub bound : sum new.counts < 2 ^ 54
  pub enough : LeavesAtMost t me i (4 * times + 3)
  pub no_more : HasAll t me → LeavesAtLeast t me i (4 * times)
  pub sparing : HasAll t me → IsSparing t new

-- the k-th site of its rows has its turn
module _ {t : Terms} {new : View} {spot least times : ℕ} (v : View) (cs : List ℕ) (k : ℕ)
    (did : Relieved t (record (looked v spot least) { counts = cs }) new (v.base + k) times) where
  pub next_view : new ≡ record (looked v new.spot new.least) { counts = set cs k (get_or cs k 0 + times) }
  next_view =
      let at = ap (λ (u : View). u.spot) did.view in
      let place : (v.base + k) - v.base ≡ k = omega arith in
      did.view ∙ (λ q.
      record (looked v (sym at q) new.least) { counts = set cs (place q) (get_or cs (place q) 0 + times) })

  pub next_swept : {topplings : ℕ} → v.base + length v.counts ≤ sites (grid_of_terms t)
      → k < length v.counts → Sweeps t v cs k topplings
      → Sweeps t v (set cs k (get_or cs k 0 + times)) (k + 1) (topplings + times)
  next_swept rows inside s =
      let n = get_or cs k 0 in
      let ds = set cs k (n + times) in
      let more = counted k times cs ds (omega arith) refl in
      let new_here : get_or ds k 0 ≡ n + times =
      get_or-set_same cs k (n + times) 0 (omega arith) in
      let old : (j : ℕ) → j ≢ k → get_or ds j 0 ≡ get_or cs j 0 = λ j ne. get_or-set_other cs k j (n + times) 0 ne in
      let was = s.rest k (omega arith) in
      let sum_set = sum_by-set (λ (x : ℕ). x) cs k (n + times) 0 (omega arith) in
      let here = toppled-row (with_counts v cs) k ∙ (was ∙ sym (toppled-row v k)) in
      record {
        same_rows = length-set cs k (n + times) ∙ s.same_rows;
        risen = omega arith;
        never_fall = λ j. (let g = s.never_fall j in let m = more j in omega arith);
        rest = λ j le. old j (λ e. absurd (omega arith)) ∙ s.rest j (omega arith);
        enough = λ j l.
            let low = at_most_before t v cs (v.base + k) (4 * times + 3) (omega arith) s.never_fall here did.enough in
            grind (arith, new_here, was, old j, low, s.enough j);
        idle = λ z.
            let none : times ≡ 0 = omega arith in
            ap (set cs k) {x = n + times} {y = n} (omega arith) ∙ (set-get_or cs k 0 ∙ s.idle (omega arith));
        calm = λ all low. (let z = s.calm all low in
            let same = s.idle z in
            let r : LeavesAtLeast t v (v.base + k) (4 * times) =
            subst (λ l. LeavesAtLeast t (with_counts v l) (v.base + k) (4 * times)) same (did.no_more (still s all)) in
            let l = low (v.base + k) (omega arith) in omega arith);
        in_turn = λ all.
            one_in_turn t v cs k times (omega arith) s.same_rows s.rest (s.in_turn all) (did.no_more (still s all)) did.enough;
        bound = λ _. (let e = ap (λ (u : View). sum u.counts) next_view in omega arith);
        sparing = λ _ all. (let q = subst (IsSparing t) next_view (did.sparing (still s all)) in
            record { needed = q.needed; weighed = q.weighed });
      }
    where
      still : {topplings : ℕ} → Sweeps t v cs k topplings → HasAll t v
          → HasAll t (record (looked v spot least) { counts = cs })
      still s all = record {
        quota = all.quota;
        all_sites = λ i l. ap (λ n. leb v.base i && ltb i (v.base + n)) s.same_rows ∙ all.all_sites i l;
      }

-- if a pass with all sites topples nothing, nothing was left anywhere
calm_back : {t : Terms} {v : View} {cs : List ℕ} {topplings : ℕ} → HasAll t v
    → Sweeps t v cs (length v.counts) topplings → topplings ≡ 0 → IsCalm t v
calm_back {t = t} {v = v} {cs = cs} all s none i inside =
    let at = place_inside v i (all.all_sites i inside) in
    let low = s.enough (i - v.base) at.1 in
    let same = ap (λ (l : List ℕ). get_or l (i - v.base) 0) (s.idle none) in
    subst (λ z. LeavesAtMost t v z 3) {x = v.base + (i - v.base)} {y = i} (omega arith) (omega arith)

module _ {t : Terms} {v : View} {cs : List ℕ} {topplings : ℕ} (s : Sweeps t v cs (length v.counts) topplings) where
  pub sweeps_end : SweptRows t v cs topplings
  sweeps_end = record {
    same_rows = s.same_rows;
    risen = s.risen;
    idle = s.idle;
    never_fall = s.never_fall;
    enough = s.enough;
  }

  -- a pass without rows counts nothing
  none : length v.counts ≡ 0 → sum cs ≡ 0
  none e = ap sum (nil_from_length cs (s.same_rows ∙ e))

  pub sweeps_all : HasAll t v → SweptAll t v cs topplings
  sweeps_all all = record {
    calm = (calm_back all s, s.calm all);
    sparing = ⊎_elim
        (λ (e : length v.counts ≡ 0). record {
          needed = λ w stab i inside.
              (let z = none_toppled (with_counts v cs) i (s.same_rows ∙ e) in omega arith);
          weighed = (let z = none e in omega arith);
        })
        (λ (some : length v.counts ≡ 0 → ⊥). s.sparing (omega arith) all)
        (cases_eq (length v.counts) 0);
    in_turn = λ j l. s.in_turn all j l;
  }

  pub sweeps_few : sum cs < 2 ^ 54
  sweeps_few = grind (arith, none, s.bound)

-- what a seat has swept, its pass has swept: a sweep does not depend on what the seat knows of heights
module _ (t : Terms) (p : PassView) (cs : List ℕ) (topplings spot least : ℕ) where
  abbrev seat : View
  seat = record (at_rest p) { spot = spot; least = least }

  rows_swept : SweptRows t seat cs topplings → SweptRows t (at_rest p) cs topplings
  rows_swept s = record {
    same_rows = s.same_rows;
    risen = s.risen;
    idle = s.idle;
    never_fall = s.never_fall;
    enough = s.enough;
  }

  all_swept : SweptAll t seat cs topplings → SweptAll t (at_rest p) cs topplings
  all_swept s = record {
    calm = s.calm;
    sparing = record { needed = s.sparing.needed; weighed = s.sparing.weighed };
    in_turn = λ j l. s.in_turn j l;
  }

  pub pass_swept : p.grid ≡ grid_of_terms t → length p.counts ≡ count_of p.rows * p.grid.width
      → SweptRows t seat cs topplings → (HasAll t seat → SweptAll t seat cs topplings) → Swept t p cs topplings
  pass_swept same each rows all = record {
    rows = rows_swept rows;
    whole = λ whole. all_swept (all (swept_has_all t p same each whole p.counts spot least refl));
  }

-- if a sweep over all sites topples nothing, nothing was left anywhere
pub calm_at_rest : (t : Terms) (v me : View) (cs new : List ℕ) (topplings : ℕ)
    → v.base ≡ 0 → length cs ≡ sites (grid_of_terms t)
    → me ≡ record (looked v me.spot me.least) { counts = cs }
    → SweptRows t me new topplings → topplings ≡ 0 → IsCalm t (with_counts v new)
calm_at_rest t v me cs new topplings base long is s none i inside =
    let swept = subst (λ (m : View). SweptRows t m new topplings) is s in
    let same = swept.idle none in
    let rise = ap (λ (l : List ℕ). get_or l i 0) same in
    let low = swept.enough i (omega arith) in
    subst (λ (l : List ℕ). LeavesAtMost t (with_counts v l) i 3) (sym same)
    (subst (λ z. LeavesAtMost t (with_counts v cs) z 3) {x = v.base + i} {y = i} (omega arith) (omega arith))
