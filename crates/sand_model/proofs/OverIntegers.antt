-- The definitions over the natural numbers agree with those over the integers.
use Rattle.sand_model.proofs.Common.{ℕ, zero, suc, ◌≡◌, ◌+◌, ◌*◌, ◌<◌, refl, arith, List, [], ◌∷◌, sum_by, ℤ, pos, negsuc, ◌+ℤ◌, ◌-ℤ◌, ◌*ℤ◌, ◌≤ℤ◌, ◌↔◌, sum_by-cons, Grid, sites, neighbours, missing, IsToppled, Stabilises, IsSettled}
use Rattle.std.proofs.lemmas.Int.{ints}
use Rattle.sand_model.specs.Sand.{sum_below, flow}
use Rattle.sand_model.specs.Integers.{whole_sum_by, whole_sum_below, laplacian, whole, IsEquivalent}
use Rattle.sand_model.proofs.SumsBelow.{sum_below-add, sum_below-scale}
use Rattle.sand_model.proofs.Sandpile.{flow_and_lost}

-- ---- an integer in two parts

pub above : ℤ → ℕ
above (pos n) = n
above (negsuc n) = 0

pub below : ℤ → ℕ
below (pos n) = 0
below (negsuc n) = suc n

pub parts : (z : ℤ) → z ≡ pos (above z) -ℤ pos (below z)
unfolding above below
parts (pos n) = omega (arith, ints)
parts (negsuc n) = omega (arith, ints)

whole_sum_by_parts : (z : ℕ → ℤ) (js : List ℕ)
    → whole_sum_by z js ≡ pos (sum_by (λ j. above (z j)) js) -ℤ pos (sum_by (λ j. below (z j)) js)
whole_sum_by_parts z [] = omega (arith, ints)
whole_sum_by_parts z (j ∷ js) =
    let rest = whole_sum_by_parts z js in
    let here = parts (z j) in
    rw (sum_by-cons (λ j. above (z j)) j js, sum_by-cons (λ j. below (z j)) j js) (omega (arith, ints))

-- ---- the Laplacian

whole_sum_by_naturals : (u : ℕ → ℕ) (js : List ℕ) → whole_sum_by (whole u) js ≡ pos (sum_by u js)
whole_sum_by_naturals u [] = refl
whole_sum_by_naturals u (j ∷ js) =
    let rest = whole_sum_by_naturals u js in
    rw (sum_by-cons u j js) (omega (arith, ints))

laplacian-whole : (g : Grid) (u : ℕ → ℕ) (i : ℕ) → laplacian g (whole u) i ≡ pos (4 * u i) -ℤ pos (flow g u i)
unfolding laplacian flow
laplacian-whole g u i = let all = whole_sum_by_naturals u (neighbours g i) in omega (arith, ints)

pub laplacian-parts : (g : Grid) (z : ℕ → ℤ) (i : ℕ)
    → laplacian g z i ≡ (pos (4 * above (z i)) +ℤ pos (flow g (λ j. below (z j)) i))
    -ℤ (pos (4 * below (z i)) +ℤ pos (flow g (λ j. above (z j)) i))
unfolding laplacian flow
laplacian-parts g z i = omega (arith, ints, parts (z i), whole_sum_by_parts z (neighbours g i))

-- t = s - Lu
pub toppled_is_integers : (g : Grid) (s u t : ℕ → ℕ)
    → IsToppled g s u t ↔ ((i : ℕ) → i < sites g → pos (t i) ≡ pos (s i) -ℤ laplacian g (whole u) i)
toppled_is_integers g s u t = (
  λ done i l. omega (arith, ints, laplacian-whole g u i, done.balance i l),
  λ done. record { balance = λ i l. omega (arith, ints, laplacian-whole g u i, done i l) },
)

-- s - Lu ≤ 3
pub stabilises_is_integers : (g : Grid) (s u : ℕ → ℕ)
    → Stabilises g s u ↔ ((i : ℕ) → i < sites g → (pos (s i) -ℤ laplacian g (whole u) i) ≤ℤ pos 3)
stabilises_is_integers g s u = (
  λ done i l. omega (arith, ints, laplacian-whole g u i, done.at_most_three i l),
  λ low. record { at_most_three = λ i l. omega (arith, ints, laplacian-whole g u i, low i l) },
)

pub settled_equivalent : (g : Grid) (s u t : ℕ → ℕ) → IsSettled g s u t → IsEquivalent g (whole s) (whole t)
settled_equivalent g s u t done = record {
  by_topplings = whole u;
  difference = λ i l. omega (arith, ints, (toppled_is_integers g s u t).0 done.toppled i l);
}

-- ---- the sum over all sites

whole_sum_below_parts : (n : ℕ) (p q : ℕ → ℕ) (z : ℕ → ℤ) → ((i : ℕ) → i < n → z i ≡ pos (p i) -ℤ pos (q i))
    → whole_sum_below n z ≡ pos (sum_below n p) -ℤ pos (sum_below n q)
unfolding whole_sum_below sum_below
whole_sum_below_parts zero p q z e = omega (arith, ints)
whole_sum_below_parts (suc n) p q z e =
    let below = whole_sum_below_parts n p q z (λ i l. e i (omega arith)) in
    let last = e n (omega arith) in
    omega (arith, ints)

whole_sum_below_split : (n : ℕ) (s z : ℕ → ℤ)
    → whole_sum_below n s ≡ whole_sum_below n (λ i. s i -ℤ z i) +ℤ whole_sum_below n z
unfolding whole_sum_below
whole_sum_below_split zero s z = omega (arith, ints)
whole_sum_below_split (suc n) s z = let below = whole_sum_below_split n s z in omega (arith, ints)

product-parts : (m : ℕ) (z : ℤ) → pos m *ℤ z ≡ pos (m * above z) -ℤ pos (m * below z)
unfolding above below
product-parts m (pos n) = omega (arith, ints)
product-parts m (negsuc n) = omega (arith, ints)

-- the Laplacian of any u sums to the grains that u loses
whole_sum_below-laplacian : (g : Grid) (u : ℕ → ℤ)
    → whole_sum_below (sites g) (laplacian g u) ≡ whole_sum_below (sites g) (λ i. pos (missing g i) *ℤ u i)
whole_sum_below-laplacian g u =
    let a : ℕ → ℕ = λ i. above (u i) in
    let b : ℕ → ℕ = λ i. below (u i) in
    let of_laplacian = whole_sum_below_parts (sites g) (λ i. 4 * a i + flow g b i) (λ i. 4 * b i + flow g a i)
    (laplacian g u) (λ i l. let e = laplacian-parts g u i in omega (arith, ints)) in
    let of_lost = whole_sum_below_parts (sites g) (λ i. missing g i * a i) (λ i. missing g i * b i)
    (λ i. pos (missing g i) *ℤ u i) (λ i l. product-parts (missing g i) (u i)) in
    omega (
      arith,
      ints,
      sum_below-scale (sites g) 4 a,
      sum_below-scale (sites g) 4 b,
      sum_below-add (sites g) (λ i. 4 * a i) (flow g b),
      sum_below-add (sites g) (λ i. 4 * b i) (flow g a),
      flow_and_lost g a,
      flow_and_lost g b,
    )

pub laplacian_sum_over_integers : (g : Grid) (s u : ℕ → ℤ)
    → whole_sum_below (sites g) s ≡ whole_sum_below (sites g) (λ i. s i -ℤ laplacian g u i)
    +ℤ whole_sum_below (sites g) (λ i. pos (missing g i) *ℤ u i)
laplacian_sum_over_integers g s u =
    omega (arith, ints, whole_sum_below_split (sites g) s (laplacian g u), whole_sum_below-laplacian g u)
