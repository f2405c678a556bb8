-- The laws of piles: least action, settling in parts, the fall of the weight.
use Rattle.sand_model.proofs.Common.{ℕ, zero, suc, ◌≡◌, ◌+◌, ◌-◌, ◌*◌, ◌/◌, ◌%◌, ◌<◌, ◌≤◌, refl, sym, ◌∙◌, ap, arith, List, [], ◌∷◌, length, sum_by, nat_tests, div_below, div-add-mod', mod_below, div-mul-add, sum_by-cons, mul-le-mul_left, Grid, sites, neighbours, row, sum_below, occurrences, IsStable, IsToppled, Stabilises, IsUnderway, IsSettled, grains, topplings, lost, weight, value_at, one_at}
use Rattle.sand_model.specs.Grid.{missing, north, west, east, south}
use Rattle.sand_model.specs.Laws.{MayToppleAfter, AreLegal}
use Rattle.sand_model.specs.Sand.{flow, grain_weight}
use Rattle.sand_model.proofs.SumsBelow.{sum_below-one_at, sum_below_same, sum_below_le, sum_below-add, sum_below_both, sum_below-scale}
use Rattle.sand_model.proofs.Neighbours.{neighbours_at_most_four, flow_four, some_width}
use Rattle.sand_model.proofs.Flow.{flow_le, flow_same, flow-add, flow_self_adjoint}

-- if a site may topple k more times, any w that stabilises has room for them
pub least_action : (g : Grid) (s u w : ℕ → ℕ) (i k : ℕ) → i < sites g
    → Stabilises g s w → ((j : ℕ) → j < sites g → u j ≤ w j)
    → 4 * u i + 4 * k ≤ s i + flow g u i → u i + k ≤ w i
least_action g s u w i k l stable below high = omega (arith, flow_le g u w below i l, stable.at_most_three i l)

-- what flows by w flows by u and by the rest of w
flow_rest : (g : Grid) (u w : ℕ → ℕ) → ((j : ℕ) → j < sites g → u j ≤ w j) → (i : ℕ) → i < sites g
    → flow g w i ≡ flow g u i + flow g (λ j. w j - u j) i
flow_rest g u w below i l =
    sym (flow_same g (λ j. u j + (w j - u j)) w (λ j m. omega (arith, below j m)) i l)
    ∙ flow-add g u (λ j. w j - u j) i

-- u and the odometer of the pile after u add up to the odometer of the start, if u is at most every w that stabilises
-- it
pub settles_after : (g : Grid) (s u h v t : ℕ → ℕ) → IsUnderway g s u h → IsSettled g h v t
    → IsSettled g s (λ i. u i + v i) t
settles_after g s u h v t first second = record {
  toppled = record {
    balance = λ i l. omega (arith, first.toppled.balance i l, second.toppled.balance i l, flow-add g u v i);
  };
  odometer = record {
    stabilises = record {
      at_most_three = λ i l.
          let two = second.odometer.stabilises.at_most_three i l in
          omega (arith, first.toppled.balance i l, flow-add g u v i);
    };
    least = λ w stable i l.
        let start = first.bounded w stable in
        let rest = second.odometer.least (λ j. w j - u j) (record {
          at_most_three = λ j m. omega (
            arith,
            stable.at_most_three j m,
            first.toppled.balance j m,
            flow_rest g u w start j m,
            start j m,
          );
        }) i l in
        omega (arith, start i l);
  };
}

pub settled_in_parts : (g : Grid) (a b u t v r : ℕ → ℕ) → IsSettled g a u t → IsSettled g (λ i. t i + b i) v r
    → IsSettled g (λ i. a i + b i) (λ i. u i + v i) r
settled_in_parts g a b u t v r first second = settles_after g (λ i. a i + b i) u (λ i. t i + b i) v r
    (record {
      toppled = record { balance = λ i l. omega (arith, first.toppled.balance i l) };
      bounded = λ w stable.
          first.odometer.least w (record { at_most_three = λ i l. omega (arith, stable.at_most_three i l) });
    })
    second

pub settled_once : (g : Grid) (s u v t r : ℕ → ℕ) → IsSettled g s u t → IsSettled g s v r → (i : ℕ) → i < sites g
    → (u i ≡ v i) × (t i ≡ r i)
settled_once g s u v t r a b i l =
    let same : (j : ℕ) → j < sites g → u j ≡ v j = λ j m. omega (
      arith,
      a.odometer.least v b.odometer.stabilises j m,
      b.odometer.least u a.odometer.stabilises j m,
    ) in
    (same i l, omega (arith, flow_same g u v same i l, same i l, a.toppled.balance i l, b.toppled.balance i l))

pub settled_stable : (g : Grid) (s u t : ℕ → ℕ) → IsSettled g s u t → IsStable g t
settled_stable g s u t done = record {
  low = λ i l. omega (arith, done.toppled.balance i l, done.odometer.stabilises.at_most_three i l);
}

-- settling depends only on the numbers at the sites
pub settled_same : (g : Grid) (s s' u u' t t' : ℕ → ℕ)
    → ((i : ℕ) → i < sites g → s i ≡ s' i) → ((i : ℕ) → i < sites g → u i ≡ u' i)
    → ((i : ℕ) → i < sites g → t i ≡ t' i) → IsSettled g s u t
    → IsSettled g s' u' t'
settled_same g s s' u u' t t' starts counts piles done = record {
  toppled = record {
    balance = λ i l. omega (
      arith,
      done.toppled.balance i l,
      starts i l,
      counts i l,
      piles i l,
      flow_same g u u' counts i l,
    );
  };
  odometer = record {
    stabilises = record {
      at_most_three = λ i l.
          let most = done.odometer.stabilises.at_most_three i l in
          omega (arith, starts i l, counts i l, flow_same g u u' counts i l);
    };
    least = λ w stable i l.
        let le = done.odometer.least w
        (record { at_most_three = λ j m. omega (arith, stable.at_most_three j m, starts j m) }) i l in
        omega (arith, counts i l);
  };
}

-- ---- sums

-- the balance, weighted by f and summed over all sites: each toppling takes f four times and gives the neighbours' f
balance_total : (g : Grid) (f s u t : ℕ → ℕ) → IsToppled g s u t
    → sum_below (sites g) (λ i. t i * f i) + 4 * sum_below (sites g) (λ i. u i * f i)
    ≡ sum_below (sites g) (λ i. s i * f i) + sum_below (sites g) (λ i. u i * flow g f i)
balance_total g f s u t done = omega (
  arith,
  sum_below-scale (sites g) 4 (λ i. u i * f i),
  sum_below-add (sites g) (λ i. t i * f i) (λ i. 4 * (u i * f i)),
  sum_below_both (sites g) (λ i. s i * f i) (λ i. f i * flow g u i) (λ i. t i * f i + 4 * (u i * f i))
      (λ i l. omega (arith, ap (λ k. k * f i) (done.balance i l))),
  flow_self_adjoint g f u,
)

pub sum_by_ones : (xs : List ℕ) → sum_by (λ j. 1) xs ≡ length xs
sum_by_ones [] = refl
sum_by_ones (x ∷ xs) = let rest = sum_by_ones xs in rw (sum_by-cons (λ j. 1) x xs) (omega arith)

pub flow_ones : (g : Grid) (i : ℕ) → flow g (λ j. 1) i + missing g i ≡ 4
unfolding flow missing
flow_ones g i = omega (arith, neighbours_at_most_four g i, sum_by_ones (neighbours g i))

-- of the four grains of a toppling, some reach a neighbour and the others are lost
pub flow_and_lost : (g : Grid) (u : ℕ → ℕ) → sum_below (sites g) (flow g u) + lost g u ≡ 4 * sum_below (sites g) u
flow_and_lost g u = omega (
  arith,
  flow_self_adjoint g (λ j. 1) u,
  sum_below_same (sites g) (λ i. 1 * flow g u i) (flow g u) (λ i l. omega arith),
  sum_below_both (sites g) (λ i. u i * flow g (λ j. 1) i) (λ i. missing g i * u i) (λ i. 4 * u i)
      (λ i l. omega (arith, ap (λ k. u i * k) (flow_ones g i))),
  sum_below-scale (sites g) 4 u,
)

pub laplacian_sum : (g : Grid) (s u t : ℕ → ℕ) → IsToppled g s u t → grains g s ≡ grains g t + lost g u
laplacian_sum g s u t done = omega (
  arith,
  sum_below-scale (sites g) 4 u,
  sum_below-add (sites g) t (λ i. 4 * u i),
  sum_below_both (sites g) s (flow g u) (λ i. t i + 4 * u i) done.balance,
  flow_and_lost g u,
)

-- ---- weight

row_of : (w a b k : ℕ) → b < w → k ≡ a * w + b → k / w ≡ a
row_of w a b k l e = rw e (div-mul-add a w b l)

one_row_up : (r h : ℕ) → 0 < r → (r - 1 + 1) * (h - (r - 1)) ≤ r * (h - r + 1)
one_row_up zero h l = absurd (omega arith)
one_row_up (suc q) h l =
    let one : suc q - 1 ≡ q = omega arith in
    let le : h - q ≤ h - suc q + 1 = omega arith in
    rw one (omega (arith, mul-le-mul_left (q + 1) le))

one_row_down : (r h : ℕ) → (r + 1 + 1) * (h - (r + 1)) ≤ (r + 2) * (h - r - 1)
one_row_down r h =
    let e : h - (r + 1) ≡ h - r - 1 = omega arith in
    rw e (omega arith)

row_before : (r w : ℕ) → 0 < r → (r - 1) * w + w ≡ r * w
row_before zero w l = absurd (omega arith)
row_before (suc q) w l = let one : suc q - 1 ≡ q = omega arith in rw one (omega arith)

-- bounds on the weight of a grain one row up, in the same row, and one row down
weight_up : (g : Grid) (i : ℕ) → i < sites g
    → value_at (grain_weight g) (north g i) ≤ row g i * (g.height - row g i + 1)
unfolding north grain_weight
weight_up g i l =
    let parts = div-add-mod' i g.width in
    let column = mod_below i g.width (some_width g.width g.height i l) in
    let there = λ (up : 0 < i / g.width). row_of g.width (i / g.width - 1) (i % g.width) (i - g.width) column
    (omega (arith, row_before (i / g.width) g.width up)) in
    let bound = one_row_up (i / g.width) g.height in
    grind (arith, nat_tests)

weight_down : (g : Grid) (i : ℕ) → i < sites g
    → value_at (grain_weight g) (south g i) ≤ (row g i + 2) * (g.height - row g i - 1)
unfolding south grain_weight
weight_down g i l =
    let parts = div-add-mod' i g.width in
    let column = mod_below i g.width (some_width g.width g.height i l) in
    let there = row_of g.width (i / g.width + 1) (i % g.width) (i + g.width) column (omega arith) in
    let bound = one_row_down (i / g.width) g.height in
    grind (arith, nat_tests)

weight_left : (g : Grid) (i : ℕ) → i < sites g → value_at (grain_weight g) (west g i) ≤ grain_weight g i
unfolding west grain_weight
weight_left g i l =
    let w = g.width in
    let pos = some_width w g.height i l in
    let parts = div-add-mod' i w in
    let column = mod_below i w pos in
    let near = λ (some : 0 < i % w). row_of w (i / w) (i % w - 1) (i - 1) (omega arith) (omega arith) in
    let far = λ (first : i % w ≤ 0). row_of w (i / w) (w - 1) (i + (w - 1)) (omega arith) (omega arith) in
    grind (arith, nat_tests)

weight_right : (g : Grid) (i : ℕ) → i < sites g → value_at (grain_weight g) (east g i) ≤ grain_weight g i
unfolding east grain_weight
weight_right g i l =
    let w = g.width in
    let pos = some_width w g.height i l in
    let parts = div-add-mod' i w in
    let column = mod_below i w pos in
    let near = λ (some : i % w + 1 < w). row_of w (i / w) (i % w + 1) (i + 1) some (omega arith) in
    let far = λ (last : w ≤ i % w + 1). row_of w (i / w) 0 (i - (w - 1)) pos (omega arith) in
    grind (arith, nat_tests)

-- the weight is a product of two straight lines in the row, so it bends by 2
second_difference : (r d : ℕ) → 0 < d → r * (d + 1) + (r + 2) * (d - 1) + 2 ≡ 2 * ((r + 1) * d)
second_difference r zero l = absurd (omega arith)
second_difference r (suc e) l = let one : suc e - 1 ≡ e = omega arith in rw one (omega arith)

pub grain_weight_is : (g : Grid) (i : ℕ) → grain_weight g i ≡ (row g i + 1) * (g.height - row g i)
unfolding grain_weight
grain_weight_is g i = refl

-- the neighbours' weights sum to at least 2 less than four times the site's own
grain_weight_falls : (g : Grid) (i : ℕ) → i < sites g → flow g (grain_weight g) i + 2 ≤ 4 * grain_weight g i
grain_weight_falls g i l =
    let pos = some_width g.width g.height i l in
    let inside : row g i < g.height = div_below i g.width g.height pos (omega (arith, div-add-mod' i g.width)) in
    omega (
      arith,
      flow_four g (grain_weight g) i,
      weight_up g i l,
      weight_down g i l,
      weight_left g i l,
      weight_right g i l,
      second_difference (row g i) (g.height - row g i) (omega arith),
      grain_weight_is g i,
    )

-- toppling each site u times lowers the weight by at least twice the topplings
pub weight_after : (g : Grid) (s u t : ℕ → ℕ) → IsToppled g s u t → weight g t + 2 * topplings g u ≤ weight g s
weight_after g s u t done = omega (
  arith,
  balance_total g (grain_weight g) s u t done,
  sum_below-scale (sites g) 2 u,
  sum_below-scale (sites g) 4 (λ i. u i * grain_weight g i),
  sum_below-add (sites g) (λ i. u i * flow g (grain_weight g) i) (λ i. 2 * u i),
  sum_below_le (sites g) (λ i. u i * flow g (grain_weight g) i + 2 * u i) (λ i. 4 * (u i * grain_weight g i))
      (λ i l. omega (arith, mul-le-mul_left (u i) (grain_weight_falls g i l))),
)

-- one more legal toppling does not exceed w
one_more : (g : Grid) (s u w : ℕ → ℕ) (i : ℕ) → Stabilises g s w
    → ((j : ℕ) → j < sites g → u j ≤ w j) → MayToppleAfter g s u i
    → (j : ℕ) → j < sites g → u j + one_at i j ≤ w j
one_more g s u w i stable below may j l =
    let here = least_action g s u w i 1 may.site stable below (omega (arith, may.high)) in
    grind (arith, nat_tests, below j l)

-- nor does any number of them
legal_after : (g : Grid) (s u w : ℕ → ℕ) (order : List ℕ) → AreLegal g s u order
    → Stabilises g s w → ((j : ℕ) → j < sites g → u j ≤ w j) → (i : ℕ) → i < sites g
    → u i + occurrences order i ≤ w i
legal_after g s u w [] legal stable below i l = omega (arith, below i l)
legal_after g s u w (k ∷ order) legal stable below i l =
    let rest =
    legal_after g s (λ j. u j + one_at k j) w order legal.1 stable (one_more g s u w k stable below legal.0) i l in
    rw (sum_by-cons (λ j. one_at j i) k order) (omega arith)

-- the laws, as stated in specs/Laws
pub legal_below : (g : Grid) (s w : ℕ → ℕ) (order : List ℕ)
    → AreLegal g s (λ j. 0) order → Stabilises g s w → (i : ℕ) → i < sites g
    → occurrences order i ≤ w i
legal_below g s w order legal stable i l =
    omega (arith, legal_after g s (λ j. 0) w order legal stable (λ j m. omega arith) i l)

pub one_lighter : (g : Grid) (s t : ℕ → ℕ) (i : ℕ) → i < sites g → IsToppled g s (one_at i) t
    → weight g t + 2 ≤ weight g s
one_lighter g s t i l done = omega (
  arith,
  weight_after g s (one_at i) t done,
  sum_below-one_at (sites g) i (λ j. 1) l,
  sum_below_same (sites g) (λ j. 1 * one_at i j) (one_at i) (λ j m. omega arith),
)
