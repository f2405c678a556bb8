-- A pile that is being settled, turn by turn.
use Rattle.sand_settle.proofs.Common.{ℕ, ◌≡◌, ◌+◌, ◌*◌, ◌^◌, ◌<◌, ◌≤◌, arith, List, length, replicate, sum, get_or, inl, inr, cases_lt, get_or-replicate, get_or_past, length-replicate, Grid, sites, one_at, IsToppled, topplings, weight, sum_below_none, sum_below_both, sum_below-one_at, weight_after, laplacian_sum, sum_is_grains, weight_bound, underway_step, Advances, most_grains_on, heaviest, few_weigh, ap}

pub topplings_at : (g : Grid) (i k : ℕ) → i < sites g → topplings g (λ j. k * one_at i j) ≡ k
topplings_at g i k l = sum_below-one_at (sites g) i (λ j. k) l

-- ---- from one moment to a later one

-- one site topples k times
pub advance_turn : (g : Grid) (v r w q : ℕ → ℕ) (i k : ℕ) → i < sites g
    → 4 * k ≤ r i → ((j : ℕ) → j < sites g → w j ≡ v j + k * one_at i j)
    → IsToppled g r (λ j. k * one_at i j) q → Advances g v r w q × (topplings g w ≡ topplings g v + k)
advance_turn g v r w q i k l high counts done =
    let here = topplings_at g i k l in
    let both = sum_below_both (sites g) v (λ j. k * one_at i j) w counts in (
      record {
        underway = λ s before. underway_step g s v r w q i k l high before counts done;
        weight_pays = omega (arith, weight_after g r (λ j. k * one_at i j) q done);
        grains_fall = omega (arith, laplacian_sum g r (λ j. k * one_at i j) q done);
      },
      omega arith,
    )

pub sum_falls : {g : Grid} {u v : ℕ → ℕ} (h k : List ℕ) → length h ≡ sites g
    → length k ≡ sites g → Advances g u (λ j. get_or h j 0) v (λ j. get_or k j 0)
    → sum k ≤ sum h
sum_falls {g} h k lh lk advances =
    omega (arith, sum_is_grains g h lh, sum_is_grains g k lk, advances.grains_fall)

-- a list of zeros is 0 everywhere
pub zero_at : (n j : ℕ) (u : List ℕ) → u ≡ replicate n 0 → get_or u j 0 ≡ 0
zero_at n j u zeros = rw zeros elim (cases_lt j n) [
  | inl less ↦ get_or-replicate {A = ℕ} n j 0 0 less
  | inr past ↦ get_or_past (replicate n 0) j 0 (omega (arith, length-replicate {A = ℕ} n 0))
]

-- at the start of a settling the topplings to come are few
pub few_at_first : (g : Grid) (u : ℕ → ℕ) (h : List ℕ)
    → length h ≡ sites g → sum h ≤ most_grains_on g → ((i : ℕ) → u i ≡ 0)
    → 2 * topplings g u + weight g (λ j. get_or h j 0) < 2 ^ 55
few_at_first g u h each limit none =
    let zeros = sum_below_none (sites g) u (λ j l. none j) in
    let heavy = ap (λ n. heaviest g * n) (sum_is_grains g h each) in
    omega (arith, weight_bound g (λ j. get_or h j 0), few_weigh g (sum h) limit)
