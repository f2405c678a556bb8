-- Sums over the numbers below a bound.
use Rattle.sand_model.proofs.Common.{ℕ, zero, suc, ◌≡◌, ◌+◌, ◌*◌, ◌<◌, ◌≤◌, refl, sym, ◌∙◌, ap, arith, eq-eqb, ne_eqb, nat_tests, one_at}
use Rattle.sand_model.specs.Sand.{sum_below}

pub sum_below_same : (n : ℕ) (f h : ℕ → ℕ) → ((i : ℕ) → i < n → f i ≡ h i) → sum_below n f ≡ sum_below n h
unfolding sum_below
sum_below_same zero f h e = refl
sum_below_same (suc n) f h e =
    let below : sum_below n f ≡ sum_below n h = sum_below_same n f h (λ i l. e i (omega arith)) in
    let last : f n ≡ h n = e n (omega arith) in
    omega arith

pub sum_below_le : (n : ℕ) (f h : ℕ → ℕ) → ((i : ℕ) → i < n → f i ≤ h i) → sum_below n f ≤ sum_below n h
unfolding sum_below
sum_below_le zero f h e = omega arith
sum_below_le (suc n) f h e =
    let below : sum_below n f ≤ sum_below n h = sum_below_le n f h (λ i l. e i (omega arith)) in
    let last : f n ≤ h n = e n (omega arith) in
    omega arith

pub sum_below-add : (n : ℕ) (f h : ℕ → ℕ) → sum_below n (λ i. f i + h i) ≡ sum_below n f + sum_below n h
unfolding sum_below
sum_below-add zero f h = refl
sum_below-add (suc n) f h = let below = sum_below-add n f h in omega arith

-- k is f + h at each number
pub sum_below_both : (n : ℕ) (f h k : ℕ → ℕ) → ((i : ℕ) → i < n → k i ≡ f i + h i)
    → sum_below n k ≡ sum_below n f + sum_below n h
sum_below_both n f h k e = sum_below_same n k (λ i. f i + h i) e ∙ sum_below-add n f h

pub sum_below-scale : (n c : ℕ) (f : ℕ → ℕ) → sum_below n (λ i. c * f i) ≡ c * sum_below n f
unfolding sum_below
sum_below-scale zero c f = omega arith
sum_below-scale (suc n) c f = let below = sum_below-scale n c f in omega arith

pub sum_below-zero : (n : ℕ) → sum_below n (λ i. 0) ≡ 0
unfolding sum_below
sum_below-zero zero = refl
sum_below-zero (suc n) = let below = sum_below-zero n in omega arith

pub sum_below_none : (n : ℕ) (f : ℕ → ℕ) → ((i : ℕ) → i < n → f i ≡ 0) → sum_below n f ≡ 0
sum_below_none n f none = sum_below_same n f (λ i. 0) none ∙ sum_below-zero n

pub sum_below-ones : (n : ℕ) → sum_below n (λ i. 1) ≡ n
unfolding sum_below
sum_below-ones zero = refl
sum_below-ones (suc n) = let below = sum_below-ones n in omega arith

pub sum_below_swap : (n m : ℕ) (f : ℕ → ℕ → ℕ)
    → sum_below n (λ i. sum_below m (λ j. f i j)) ≡ sum_below m (λ j. sum_below n (λ i. f i j))
unfolding sum_below
sum_below_swap zero m f = sym (sum_below-zero m)
sum_below_swap (suc n) m f =
    let below = sum_below_swap n m f in
    let split = sum_below-add m (λ j. sum_below n (λ i. f i j)) (f n) in
    omega arith

pub one_at_same : (k : ℕ) → one_at k k ≡ 1
one_at_same k = rw (eq-eqb k k refl)

pub one_at_other : (k j : ℕ) → (k ≡ j → ⊥) → one_at k j ≡ 0
one_at_other k j ne = rw (ne_eqb k j ne)

pub sum_below-one_at_past : (n k : ℕ) (f : ℕ → ℕ) → n ≤ k → sum_below n (λ j. f j * one_at k j) ≡ 0
unfolding sum_below
sum_below-one_at_past zero k f l = refl
sum_below-one_at_past (suc n) k f l =
    let below = sum_below-one_at_past n k f (omega arith) in
    let here : one_at k n ≡ 0 = one_at_other k n (λ e. omega arith) in
    rw (below, here) (omega arith)

pub sum_below-one_at : (n k : ℕ) (f : ℕ → ℕ) → k < n → sum_below n (λ j. f j * one_at k j) ≡ f k
unfolding sum_below
sum_below-one_at zero k f l = absurd (omega arith)
sum_below-one_at (suc n) k f l =
    let past = sum_below-one_at_past n k f in
    let below = sum_below-one_at n k f in
    let same = ap f {x = k} {y = n} in
    grind (arith, nat_tests)

pub one_at_comm : (k j : ℕ) → one_at k j ≡ one_at j k
one_at_comm k j = grind (arith, nat_tests)
