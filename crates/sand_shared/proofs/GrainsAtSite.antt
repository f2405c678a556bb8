-- Grains at one site, what a toppling sends to the neighbours, what follows from each site having one holder, and the
-- counts of a pass as a list and by site.
use Rattle.sand_shared.proofs.Common.{Bool, ◌≡◌, ℕ, ◌+◌, ◌-◌, ◌*◌, ◌<◌, ◌≤◌, ◌≢◌, List, ◌∷◌, ◌++◌, length, ltb, leb, true, false, refl, sym, ap, ◌∙◌, arith, zero, suc, take, sum, slice_index, ◌&&◌, eq-eqb, ne_eqb, nat_tests, length-set, take_all, sum_by-cons, sum_by-append, sum_by_more, Grid, sites, neighbours, one_at, flow_same, flow-scale, flow-one_at, counted, Grains, View, Terms, grid_of_terms, amount_at, held, holds_site, toppled_by, OpenPile, nobody, toppled, pass_at, IsLawful, grains_for, sent, raised, unloaded, one_if, get_or-eq_default}
use Rattle.sand_model.specs.Sand.{flow, sum_below}
use Rattle.sand_shared.proofs.SumsOverPasses.{sum_by-map, sum_by_two, sum_by_only}

pub amount_here : (i k j : ℕ) → i ≡ j → amount_at i k j ≡ k
amount_here i k j e = rw (eq-eqb i j e)

pub amount_else : (i k j : ℕ) → i ≢ j → amount_at i k j ≡ 0
amount_else i k j ne = rw (ne_eqb i j ne)

pub amount_is : (i k j : ℕ) → amount_at i k j ≡ k * one_at i j
amount_is i k j = grind (arith, nat_tests)

-- k topplings at i bring to j what they send to the neighbours of i for j
pub flow-amount : (g : Grid) (i k j : ℕ) → i < sites g → j < sites g
    → flow g (amount_at i k) j ≡ flow g (λ m. amount_at m k j) i
flow-amount g i k j li lj =
    flow_same g (amount_at i k) (λ m. k * one_at i m) (λ m _. amount_is i k m) j lj
    ∙ flow-scale g k (one_at i) j
    ∙ ap (λ z. k * z) (flow-one_at g i j li lj)
    ∙ sym (flow-scale g k (λ m. one_at m j) i)
    ∙ sym (flow_same g (λ m. amount_at m k j) (λ m. k * one_at m j) (λ m _. amount_is m k j) i li)

pub held-cons : (x : Grains) (xs : List Grains) (j : ℕ) → held (x ∷ xs) j ≡ amount_at x.site x.amount j + held xs j
held-cons x xs j = sum_by-cons (λ (g : Grains). amount_at g.site g.amount j) x xs

pub held-append : (xs ys : List Grains) (j : ℕ) → held (xs ++ ys) j ≡ held xs j + held ys j
held-append xs ys j = sum_by-append (λ (g : Grains). amount_at g.site g.amount j) xs ys

pub held-sent : (t : Terms) (i k j : ℕ) → held (sent t i k) j ≡ flow (grid_of_terms t) (λ m. amount_at m k j) i
unfolding flow
held-sent t i k j =
    sum_by-map (λ (g : Grains). amount_at g.site g.amount j) (λ m. grains_for m k) (neighbours (grid_of_terms t) i)

-- a site of a pass has an index among its counts
pub place_inside : (v : View) (i : ℕ) → holds_site v i ≡ true → (v.base ≤ i) × (i - v.base < length v.counts)
place_inside v i own = (grind (arith, nat_tests), grind (arith, nat_tests))

pub toppled_from : (v : View) (i : ℕ) → v.base ≤ i → toppled_by v i ≡ slice_index v.counts (i - v.base)
toppled_from v i le = grind (arith, nat_tests)

pub toppled_before : (v : View) (i : ℕ) → i < v.base → toppled_by v i ≡ 0
toppled_before v i lt = grind (arith, nat_tests)

-- a site has toppled k more times if a pass has toppled it k more times
pub toppled-unloaded : (t : Terms) (v : View) (i k j : ℕ) → holds_site v i ≡ true
    → toppled_by (unloaded t v i k) j ≡ toppled_by v j + amount_at i k j
toppled-unloaded t v i k j own =
    let new = counted (i - v.base) k v.counts (raised v i k) (place_inside v i own).1 refl (j - v.base) in
    grind (arith, nat_tests, new)

pub holds-unloaded : (t : Terms) (v : View) (i k j : ℕ) → holds_site (unloaded t v i k) j ≡ holds_site v j
holds-unloaded t v i k j = ap (λ n. leb v.base j && ltb j (v.base + n))
    (length-set v.counts (i - v.base) (slice_index v.counts (i - v.base) + k))

-- a pass topples no site outside its rows
pub toppled_outside : (v : View) (i : ℕ) → holds_site v i ≡ false → toppled_by v i ≡ 0
toppled_outside v i out = grind (arith, nat_tests, get_or-eq_default v.counts 0)

module _ (t : Terms) (p : OpenPile) (r : IsLawful t p) (a i : ℕ) (there : a < length p.passes)
    (inside : i < sites (grid_of_terms t)) (own : holds_site (pass_at p a) i ≡ true) where
  -- no other pass holds the site
  pub others_without : (b : ℕ) → b < length p.passes → b ≢ a → holds_site (pass_at p b) i ≡ false
  others_without b lb ne =
      let two = sum_by_two (λ (u : View). one_if (holds_site u i)) p.passes a b nobody there lb ne in
      let one = r.holders i inside in
      let mine = ap one_if own in none_if (omega arith)
    where
      none_if : {x : Bool} → one_if x ≡ 0 → x ≡ false
      none_if e = grind (arith, nat_tests)

  -- so the site's topplings are the holder's
  pub own_toppled : toppled p i ≡ toppled_by (pass_at p a) i
  own_toppled = sum_by_only (λ (u : View). toppled_by u i) p.passes a nobody
      there (λ b lb ne. toppled_outside (pass_at p b) i (others_without b lb ne))

-- the sum over the first n sites is the sum of their counts
counts_below : (v : View) (n : ℕ) → sum_below n (toppled_by v) ≡ sum (take (n - v.base) v.counts)
unfolding sum_below
counts_below v zero = ap (λ k. sum (take k v.counts)) {x = 0} {y = 0 - v.base} (omega arith)
counts_below v (suc n) =
    let before = counts_below v n in
    let early = toppled_before v n in
    let past = toppled_from v n in
    let first : ℕ → ℕ = λ k. sum (take k v.counts) in
    let same = λ (lt : n < v.base). ap first {x = n - v.base} {y = suc n - v.base} (omega arith) in
    let next = λ (le : v.base ≤ n). ap first {x = (n - v.base) + 1} {y = suc n - v.base} (omega arith) in
    let more = sum_by_more (λ (x : ℕ). x) v.counts (n - v.base) 0 in
    let all = λ (le : length v.counts ≤ n - v.base). ap sum (take_all (n - v.base) v.counts le) in
    let all_next = λ (le : length v.counts ≤ n - v.base). ap sum (take_all ((n - v.base) + 1) v.counts (omega arith)) in
    let behind = get_or-eq_default v.counts 0 {n = n - v.base} in
    grind (arith, nat_tests, before, early, past, same, next, more, all, all_next, behind)

pub sum_counts : (v : View) (n : ℕ) → v.base + length v.counts ≤ n → sum_below n (toppled_by v) ≡ sum v.counts
sum_counts v n fits = counts_below v n ∙ ap sum (take_all (n - v.base) v.counts (omega arith))
