-- A sweep site by site: the counts with which it comes to a site, and how often the site may then topple. So the sweep
-- of a whole pass is determined: what each site finds depends only on the sites before it.
use Rattle.sand_shared.proofs.Common.{◌≡◌, ℕ, zero, suc, ◌+◌, ◌-◌, ◌*◌, ◌<◌, ◌≤◌, List, [], ◌∷◌, ◌++◌, length, set, get_or, take, drop, sym, refl, ap, ◌∙◌, subst, ⊎_elim, arith, sum, cases_eq, get_or-set_same, get_or-set_other, take-set-le, take_more_same, take_all, View, Terms, LeavesAtMost, LeavesAtLeast, with_counts, TopplesInTurn, coming_to, SweptRows, SweptAll, at_rest}
use Rattle.sand_shared.specs.Laws.{OneSweep}

same_behind : (xs ys : List ℕ) (k : ℕ) → length xs ≡ length ys → ((j : ℕ) → k ≤ j → get_or xs j 0 ≡ get_or ys j 0)
    → take k xs ++ drop k ys ≡ xs
same_behind [] [] zero long same = refl
same_behind [] [] (suc k) long same = refl
same_behind [] (y ∷ ys) k long same = absurd (omega arith)
same_behind (x ∷ xs) [] k long same = absurd (omega arith)
same_behind (x ∷ xs) (y ∷ ys) zero long same = λ i.
    sym (same zero (omega arith)) i ∷ same_behind xs ys zero (omega arith) (λ j le. same (suc j) (omega arith)) i
same_behind (x ∷ xs) (y ∷ ys) (suc k) long same =
    ap (λ l. x ∷ l) (same_behind xs ys k (omega arith) (λ j le. same (suc j) (omega arith)))

-- the first k sites have toppled in turn
abbrev pub AllInTurn : Terms → View → List ℕ → ℕ → Type 0
AllInTurn t v cs k = (j : ℕ) → j < k → TopplesInTurn t v cs j

module _ (t : Terms) (v : View) (cs : List ℕ) (k times : ℕ) (inside : k < length cs)
    (long : length cs ≡ length v.counts) (rest : (j : ℕ) → k ≤ j → get_or cs j 0 ≡ get_or v.counts j 0) where
  after : List ℕ
  after = set cs k (get_or cs k 0 + times)

  -- the sweep comes to the k-th site with its current counts
  here : LeavesAtLeast t (with_counts v cs) (v.base + k) (4 * times)
      → LeavesAtMost t (with_counts v cs) (v.base + k) (4 * times + 3)
      → TopplesInTurn t v after k
  unfolding after
  here least most =
      let was = rest k (omega arith) in
      let new : get_or (set cs k (get_or cs k 0 + times)) k 0 ≡ get_or cs k 0 + times =
      get_or-set_same cs k (get_or cs k 0 + times) 0 inside in
      let rise : get_or (set cs k (get_or cs k 0 + times)) k 0 - get_or v.counts k 0 ≡ times = omega arith in
      let came : take k (set cs k (get_or cs k 0 + times)) ++ drop k v.counts ≡ cs =
      ap (λ l. l ++ drop k v.counts) (take-set-le k cs k (get_or cs k 0 + times) (omega arith))
      ∙ same_behind cs v.counts k long rest in
      let found = subst (λ (z : List ℕ × ℕ). LeavesAtLeast t (with_counts v z.0) (v.base + k) (4 * z.1))
      (λ i. (sym came i, sym rise i)) least in
      let few = subst (λ (z : List ℕ × ℕ). LeavesAtMost t (with_counts v z.0) (v.base + k) (4 * z.1 + 3))
      (λ i. (sym came i, sym rise i)) most in
      (found, few)

  -- toppling there does not change what it found at the sites before
  before : (j : ℕ) → j < k → TopplesInTurn t v cs j → TopplesInTurn t v after j
  unfolding after
  before j l did =
      let x = get_or cs k 0 + times in
      let same : get_or (set cs k x) j 0 ≡ get_or cs j 0 = get_or-set_other cs k j x 0 (λ e. absurd (omega arith)) in
      let came : take j (set cs k x) ≡ take j cs = take-set-le j cs k x (omega arith) in
      subst (λ (z : List ℕ × ℕ).
      LeavesAtLeast t (with_counts v (z.0 ++ drop j v.counts)) (v.base + j) (4 * (z.1 - get_or v.counts j 0))
      × LeavesAtMost t (with_counts v (z.0 ++ drop j v.counts)) (v.base + j) (4 * (z.1 - get_or v.counts j 0) + 3))
      (λ i. (sym came i, sym same i)) did

  pub one_in_turn : AllInTurn t v cs k
      → LeavesAtLeast t (with_counts v cs) (v.base + k) (4 * times)
      → LeavesAtMost t (with_counts v cs) (v.base + k) (4 * times + 3)
      → AllInTurn t v (set cs k (get_or cs k 0 + times)) (k + 1)
  unfolding after
  one_in_turn all least most j l = ⊎_elim
      (λ (e : j ≡ k). subst (TopplesInTurn t v (set cs k (get_or cs k 0 + times))) (sym e) (here least most))
      (λ (ne : j ≡ k → ⊥). before j (omega arith) (all j (omega arith)))
      (cases_eq j k)

-- the grains on a site allow only one number of topplings
at_most_allowed : (t : Terms) (u : View) (i a b : ℕ) → LeavesAtLeast t u i (4 * a) → LeavesAtMost t u i (4 * b + 3)
    → a ≤ b
at_most_allowed t u i a b least most = omega arith

module _ (t : Terms) (v : View) (cs ds : List ℕ) (m n : ℕ)
    (s : SweptRows t v cs m) (r : SweptRows t v ds n) (s' : SweptAll t v cs m)
    (r' : SweptAll t v ds n) where
  same_count : (j : ℕ) → j < length v.counts → take j cs ≡ take j ds → get_or cs j 0 ≡ get_or ds j 0
  same_count j l so_far =
      let rose = get_or ds j 0 - get_or v.counts j 0 in
      let a = s'.in_turn j l in
      let b = subst (λ p. LeavesAtLeast t (with_counts v (p ++ drop j v.counts)) (v.base + j) (4 * rose)
      × LeavesAtMost t (with_counts v (p ++ drop j v.counts)) (v.base + j) (4 * rose + 3))
      (sym so_far) (r'.in_turn j l) in
      let up = at_most_allowed t (coming_to v cs j) (v.base + j) (get_or cs j 0 - get_or v.counts j 0) rose a.0 b.1 in
      let down = at_most_allowed t (coming_to v cs j) (v.base + j) rose (get_or cs j 0 - get_or v.counts j 0) b.0 a.1 in
      omega (arith, s.never_fall j, r.never_fall j)

  same_so_far : (k : ℕ) → k ≤ length v.counts → take k cs ≡ take k ds
  same_so_far zero l = refl
  same_so_far (suc k) l =
      let before = same_so_far k (omega arith) in
      let here = same_count k (omega arith) before in
      subst (λ z. take z cs ≡ take z ds) {x = k + 1} {y = suc k} (omega arith)
      (take_more_same cs ds k 0 (omega arith) (omega arith) before here)

  same_sweep : (cs ≡ ds) × (m ≡ n)
  same_sweep =
      let k = length v.counts in
      let same : cs ≡ ds =
      sym (take_all k cs (omega arith)) ∙ (same_so_far k (omega arith) ∙ take_all k ds (omega arith)) in
      let sums = ap sum same in
      (same, omega arith)

pub one_sweep : OneSweep
one_sweep t p cs ds m n whole s r = same_sweep t (at_rest p) cs ds m n s.rows r.rows (s.whole whole) (r.whole whole)
