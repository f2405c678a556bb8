-- Lists of the sites that may topple, when one height is written.
use Rattle.sand_settle.proofs.Common.{ℕ, Bool, ◌≡◌, ◌≢◌, ◌+◌, ◌-◌, ◌*◌, ◌/◌, ◌<◌, ◌≤◌, refl, sym, ◌∙◌, ap, subst, drop, arith, List, [], ◌∷◌, ◌++◌, length, get_or, cond, ltb, leb, not, ◌&&◌, lt-leb, le-leb, leb-true, leb-false, get_or-set_same, get_or-set_other, drop_more, Lists, ListView, lists_pop, front_below, front_passes, none_passes, joins_if, may_topple, UnstableJoin}
use Rattle.std.proofs.Math.ListN.{set}
use Rattle.std.proofs.lemmas.Bool.Decides.{nat_tests}

others_kept : (test : ℕ → Bool) (h : List ℕ) (i v j : ℕ) → j ≢ i → test (get_or h j 0) ≡ test (get_or (set h i v) j 0)
others_kept test h i v j ne = ap test (sym (get_or-set_other h i j v 0 ne))

written : (test : ℕ → Bool) (h : List ℕ) (i v : ℕ) → i < length h → test (get_or (set h i v) i 0) ≡ test v
written test h i v l = ap test (get_or-set_same h i v 0 l)

-- the front may topple, and if the queue is empty no site may
pub front_is_high : {n : ℕ} (s : ℕ → ℕ) {xs : List ℕ} (i : ℕ) → Lists n (may_topple s) (i ∷ xs) → 4 ≤ s i
front_is_high {n} s {xs} i all = leb-true 4 (s i) (front_passes n (may_topple s) xs i all)

pub all_low : (n : ℕ) (s : ℕ → ℕ) → Lists n (may_topple s) [] → (i : ℕ) → i < n → s i ≤ 3
all_low n s all i l = let low = leb-false 4 (s i) (none_passes n (may_topple s) all i l) in omega arith

low_is_not_high : (a : ℕ) → ltb a 4 ≡ not (leb 4 a)
low_is_not_high a = grind (arith, nat_tests)

-- a site that got grains joins the queue if it may topple from now on
pub joins_one : (h : List ℕ) (l m : ListView) (i v : ℕ) → i < length h → get_or h i 0 ≤ v
    → m ≡ record l { items = cond (ltb (get_or h i 0) 4 && leb 4 v) (l.items ++ i ∷ []) l.items }
    → UnstableJoin 1 h (set h i v) l m
joins_one h l m i v inside more is =
    joins_if {p = may_topple (λ j. get_or h j 0)} {q = may_topple (λ j. get_or (set h i v) j 0)} inside
    (λ j l ne. others_kept (leb 4) h i v j ne)
    (λ high. let was = leb-true 4 (get_or h i 0) high in written (leb 4) h i v inside ∙ le-leb 4 v (omega arith))
    (ap (λ b. b && leb 4 v) (low_is_not_high (get_or h i 0))
    ∙ ap (λ b. not (leb 4 (get_or h i 0)) && b) (sym (written (leb 4) h i v inside)))
    is

-- the site whose turn it is comes first
pub turn_of : (n : ℕ) (test : ℕ → Bool) (generation next : List ℕ) (position i : ℕ)
    → i ≡ get_or generation position 0 → position < length generation
    → Lists n test (drop position generation ++ next)
    → Lists n test (i ∷ (drop (position + 1) generation ++ next))
turn_of n test generation next position i e l all =
    let first : drop position generation ≡ i ∷ drop (position + 1) generation =
    rw (e, drop_more generation position 0) refl in
    subst (λ xs. Lists n test (xs ++ next)) first all

-- once it has toppled, those behind it wait
pub others_wait : (n : ℕ) (h rest : List ℕ) (i : ℕ) → length h ≡ n
    → Lists n (may_topple (λ j. get_or h j 0)) (i ∷ rest)
    → Lists n (may_topple (λ j. get_or (set h i (get_or h i 0 - 4 * (get_or h i 0 / 4))) j 0)) rest
others_wait n h rest i each all =
    let low = get_or h i 0 - 4 * (get_or h i 0 / 4) in
    let inside = front_below n (may_topple (λ j. get_or h j 0)) rest i all in
    lists_pop n (may_topple (λ j. get_or h j 0)) (may_topple (λ j. get_or (set h i low) j 0)) rest i all
    (written (leb 4) h i low (omega arith) ∙ lt-leb 4 low (omega arith)) (λ j m ne. others_kept (leb 4) h i low j ne)
