-- Classes of equivalent piles: equivalence is symmetric and transitive, and sums of equivalent piles are equivalent.
use Rattle.sand_model.proofs.Common.{ℕ, zero, suc, ◌≡◌, ◌*◌, ◌<◌, arith, List, [], ◌∷◌, ℤ, pos, ◌+ℤ◌, ◌-ℤ◌, Grid, sites, neighbours}
use Rattle.std.proofs.lemmas.Int.{ints}
use Rattle.sand_model.specs.Integers.{whole_sum_by, laplacian, IsEquivalent}

whole_sum_by-add : (z w : ℕ → ℤ) (js : List ℕ)
    → whole_sum_by (λ j. z j +ℤ w j) js ≡ whole_sum_by z js +ℤ whole_sum_by w js
whole_sum_by-add z w [] = omega (arith, ints)
whole_sum_by-add z w (j ∷ js) = let rest = whole_sum_by-add z w js in omega (arith, ints)

whole_sum_by-minus : (z : ℕ → ℤ) (js : List ℕ) → whole_sum_by (λ j. pos 0 -ℤ z j) js ≡ pos 0 -ℤ whole_sum_by z js
whole_sum_by-minus z [] = omega (arith, ints)
whole_sum_by-minus z (j ∷ js) = let rest = whole_sum_by-minus z js in omega (arith, ints)

laplacian-add : (g : Grid) (z w : ℕ → ℤ) (i : ℕ) → laplacian g (λ j. z j +ℤ w j) i ≡ laplacian g z i +ℤ laplacian g w i
unfolding laplacian
laplacian-add g z w i = let all = whole_sum_by-add z w (neighbours g i) in omega (arith, ints)

laplacian-minus : (g : Grid) (z : ℕ → ℤ) (i : ℕ) → laplacian g (λ j. pos 0 -ℤ z j) i ≡ pos 0 -ℤ laplacian g z i
unfolding laplacian
laplacian-minus g z i = let all = whole_sum_by-minus z (neighbours g i) in omega (arith, ints)

pub equivalent_sym : (g : Grid) (s t : ℕ → ℤ) → IsEquivalent g s t → IsEquivalent g t s
equivalent_sym g s t same = record {
  by_topplings = λ j. pos 0 -ℤ same.by_topplings j;
  difference = λ i l. omega (arith, ints, same.difference i l, laplacian-minus g same.by_topplings i);
}

pub equivalent_add : (g : Grid) (s t r q : ℕ → ℤ) → IsEquivalent g s t → IsEquivalent g r q
    → IsEquivalent g (λ i. s i +ℤ r i) (λ i. t i +ℤ q i)
equivalent_add g s t r q one two = record {
  by_topplings = λ j. one.by_topplings j +ℤ two.by_topplings j;
  difference = λ i l.
      let both = laplacian-add g one.by_topplings two.by_topplings i in
      omega (arith, ints, one.difference i l, two.difference i l);
}

-- equivalence depends on the difference alone
pub equivalent_same : (g : Grid) (s t r q : ℕ → ℤ) → IsEquivalent g s t
    → ((i : ℕ) → i < sites g → (r i -ℤ q i) ≡ (s i -ℤ t i)) → IsEquivalent g r q
equivalent_same g s t r q same equal = record {
  by_topplings = same.by_topplings;
  difference = λ i l. let a = same.difference i l in let b = equal i l in omega (arith, ints);
}

pub equivalent_trans : (g : Grid) (s t r : ℕ → ℤ) → IsEquivalent g s t → IsEquivalent g t r → IsEquivalent g s r
equivalent_trans g s t r one two =
    equivalent_same g (λ i. s i +ℤ t i) (λ i. t i +ℤ r i) s r
    (equivalent_add g s t t r one two) (λ i l. omega (arith, ints))

pub equivalent_times : (g : Grid) (d : ℕ → ℕ) (k : ℕ) → IsEquivalent g (λ i. pos (d i)) (λ i. pos 0)
    → IsEquivalent g (λ i. pos (k * d i)) (λ i. pos 0)
equivalent_times g d zero none =
    equivalent_same g (λ i. pos (d i)) (λ i. pos (d i)) (λ i. pos (0 * d i)) (λ i. pos 0)
    (equivalent_trans g (λ i. pos (d i)) (λ i. pos 0) (λ i. pos (d i))
    none (equivalent_sym g (λ i. pos (d i)) (λ i. pos 0) none))
    (λ i l. omega (arith, ints))
equivalent_times g d (suc k) none =
    let fewer = equivalent_times g d k none in
    equivalent_same g (λ i. pos (d i) +ℤ pos (k * d i)) (λ i. pos 0 +ℤ pos 0) (λ i. pos (suc k * d i)) (λ i. pos 0)
    (equivalent_add g (λ i. pos (d i)) (λ i. pos 0) (λ i. pos (k * d i)) (λ i. pos 0) none fewer)
    (λ i l. omega (arith, ints))
