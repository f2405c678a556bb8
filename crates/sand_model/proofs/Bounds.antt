-- The number of sites of a grid, and what bounds the topplings of a pile: its weight, and so its grains.
use Rattle.sand_model.proofs.Common.{ℕ, zero, suc, ◌≡◌, ◌+◌, ◌-◌, ◌*◌, ◌/◌, ◌^◌, ◌<◌, ◌≤◌, subst, arith, ⊎_elim, cases_eq, cases_lt, le-div, mul-le, div-add-mod', div_below, mul-le-mul_left, Grid, IsGrid, sites, row, IsToppled, grains, topplings, weight, grain_weight}
use Rattle.sand_model.specs.Sand.{sum_below}
use Rattle.sand_model.proofs.SumsBelow.{sum_below_le, sum_below-scale, sum_below-ones}
use Rattle.sand_model.proofs.Neighbours.{some_width}
use Rattle.sand_model.proofs.Sandpile.{weight_after, grain_weight_is}
use Rattle.sand_model.specs.Piles.{most_grains, most_grains_on, heaviest}

pub sites_limit : (g : Grid) → IsGrid g → sites g ≤ 67108864
sites_limit g sides = omega (arith, mul-le g.width g.height 8192 8192 sides.width_limit sides.height_limit)

-- ---- the weight

product_ordered : (a d : ℕ) → 4 * (a * (a + d)) ≤ (a + (a + d)) * (a + (a + d))
product_ordered a d = omega arith

product_bound : (a b : ℕ) → 4 * (a * b) ≤ (a + b) * (a + b)
product_bound a b =
    ⊎_elim
    (λ (less : a < b).
    let e : a + (b - a) ≡ b = omega arith in
    subst (λ c. 4 * (a * c) ≤ (a + c) * (a + c)) e (product_ordered a (b - a)))
    (λ (more : b ≤ a).
    let e : b + (a - b) ≡ a = omega arith in
    let turned = subst (λ c. 4 * (b * c) ≤ (b + c) * (b + c)) e (product_ordered b (a - b)) in
    omega arith)
    (cases_lt a b)

grain_weight_bound : (g : Grid) (i : ℕ) → i < sites g → 4 * grain_weight g i ≤ heaviest g
unfolding heaviest
grain_weight_bound g i l =
    let pos = some_width g.width g.height i l in
    let parts = div-add-mod' i g.width in
    let inside : row g i < g.height = div_below i g.width g.height pos (omega arith) in
    let e : (row g i + 1) + (g.height - row g i) ≡ g.height + 1 = omega arith in
    rw grain_weight_is
    (subst (λ n. 4 * ((row g i + 1) * (g.height - row g i)) ≤ n * n) e
    (product_bound (row g i + 1) (g.height - row g i)))

pub weight_bound : (g : Grid) (s : ℕ → ℕ) → 4 * weight g s ≤ heaviest g * grains g s
weight_bound g s = omega (
  arith,
  sum_below_le (sites g) (λ i. 4 * (s i * grain_weight g i)) (λ i. heaviest g * s i)
      (λ i l. omega (arith, mul-le-mul_left (s i) (grain_weight_bound g i l))),
  sum_below-scale (sites g) 4 (λ i. s i * grain_weight g i),
  sum_below-scale (sites g) (heaviest g) s,
)

-- ---- the most grains on a grid

-- so many grains, wherever they are, weigh less than 2^55
pub few_weigh : (g : Grid) (n : ℕ) → n ≤ most_grains_on g → heaviest g * n < 2 ^ 57
few_weigh g n few =
    let q = heaviest g in
    let most : n ≤ 144115188075855871 / q = omega arith in
    omega (arith, mul-le-mul_left q most, div-add-mod' 144115188075855871 q)

pub limit_is_low : (g : Grid) → most_grains_on g ≤ most_grains
limit_is_low g = omega arith

some_weight : (g : Grid) → 0 < heaviest g
unfolding heaviest
some_weight g = omega arith

heaviest_bound : (g : Grid) (m : ℕ) → g.height ≤ m → heaviest g ≤ (m + 1) * (m + 1)
unfolding heaviest
heaviest_bound g m few = mul-le (g.height + 1) (g.height + 1) (m + 1) (m + 1) (omega arith) (omega arith)

-- the limit is at least n, if n grains weigh little
limit_at_least : (g : Grid) (n : ℕ) → n ≤ most_grains → n * heaviest g ≤ 144115188075855871 → n ≤ most_grains_on g
limit_at_least g n few light = omega (arith, le-div n 144115188075855871 (heaviest g) (some_weight g) light)

pub limit_is_high : (g : Grid) → g.height ≤ 256 → most_grains_on g ≡ most_grains
limit_is_high g few =
    let light = mul-le-mul_left 1099511627775 (heaviest_bound g 256 few) in
    omega (arith, limit_is_low g, limit_at_least g 1099511627775 (omega arith) (omega arith))

pub limit_has_room : (g : Grid) → IsGrid g → 18 * sites g ≤ most_grains_on g
limit_has_room g sides =
    let few = sites_limit g sides in
    let light = mul-le (18 * sites g) (heaviest g) 1207959552 67125249 (omega arith)
    (omega (arith, heaviest_bound g 8192 sides.height_limit)) in
    limit_at_least g (18 * sites g) (omega arith) (omega arith)

-- topplings number at most half the weight, legal or not, if no height ends below 0
pub topplings_bound : (g : Grid) (s u t : ℕ → ℕ) → grains g s ≤ most_grains_on g → IsToppled g s u t
    → topplings g u < 2 ^ 54
topplings_bound g s u t few done =
    omega (arith, weight_after g s u t done, weight_bound g s, few_weigh g (grains g s) few)

pub at_most_sum_below : (n : ℕ) (f : ℕ → ℕ) (i : ℕ) → i < n → f i ≤ sum_below n f
unfolding sum_below
at_most_sum_below zero f i l = absurd (omega arith)
at_most_sum_below (suc n) f i l = grind (arith, at_most_sum_below n f i, cases_eq i n)

pub at_most_all : (n : ℕ) (f : ℕ → ℕ) → ((i : ℕ) → i < n → f i ≤ 1) → sum_below n f ≤ n
at_most_all n f few = omega (arith, sum_below_le n f (λ i. 1) few, sum_below-ones n)

pub fewer_than_all : (n : ℕ) (f : ℕ → ℕ) (j : ℕ) → ((i : ℕ) → i < n → f i ≤ 1) → j < n → f j ≡ 0 → sum_below n f < n
unfolding sum_below
fewer_than_all zero f j few l none = absurd (omega arith)
fewer_than_all (suc n) f j few l none =
    let all = at_most_all n f (λ i m. few i (omega arith)) in
    let less = fewer_than_all n f j (λ i m. few i (omega arith)) in
    grind (arith, few n, cases_eq j n)
