-- Numbers over the sites of a grid: topplings, what stabilises, the least odometer.
-- Sources: Dhar 1990 (the toppling matrix), and for the least odometer the least action principle of chip-firing (Fey,
-- Levine and Peres 2010). A list of heights is read by site, and as 0 past its end.
use Rattle.std.specs.Prelude.{ℕ, zero, suc, ◌≡◌, ◌+◌, ◌-◌, ◌*◌, ◌<◌, ◌≤◌, List, sum_by, count_by, ◌==◌, if◌then◌else◌, Option, Some, None}
use Rattle.sand_model.specs.Grid.{Grid, sites, neighbours, missing, row}

-- the sum of f over the numbers below n
unfoldable pub sum_below : ℕ → (ℕ → ℕ) → ℕ
sum_below zero f = 0
sum_below (suc n) f = sum_below n f + f n

-- how often a site is in a list of sites
abbrev pub occurrences : List ℕ → ℕ → ℕ
occurrences history i = count_by (λ j. j == i) history

-- 1 at the site k, and 0 at every other site
abbrev pub one_at : ℕ → ℕ → ℕ
one_at k j = if k == j then 1 else 0

-- u at a site, and 0 in the sink
abbrev pub value_at : (ℕ → ℕ) → Option ℕ → ℕ
value_at u None = 0
value_at u (Some i) = u i

-- the sum of u over the neighbours of a site: what it gains when each site topples u times
unfoldable pub flow : Grid → (ℕ → ℕ) → ℕ → ℕ
flow g u i = sum_by u (neighbours g i)

-- no site may topple
pub record IsStable (g : Grid) (s : ℕ → ℕ) : Type 0 where
  pub low : (i : ℕ) → i < sites g → s i ≤ 3

-- toppling each site u times turns s into t: t = s - Lu, where (Lu)(i) = 4 * u(i) - flow u i
pub record IsToppled (g : Grid) (s u t : ℕ → ℕ) : Type 0 where
  pub balance : (i : ℕ) → i < sites g → t i + 4 * u i ≡ s i + flow g u i

-- s - Lu is at most 3 at each site; it may be negative somewhere, and legal topplings need not lead there
pub record Stabilises (g : Grid) (s u : ℕ → ℕ) : Type 0 where
  pub at_most_three : (i : ℕ) → i < sites g → s i + flow g u i ≤ 4 * u i + 3

-- the topplings u turned s into t, and u is at most every w that stabilises s
pub record IsUnderway (g : Grid) (s u t : ℕ → ℕ) : Type 0 where
  pub toppled : IsToppled g s u t
  pub bounded : (w : ℕ → ℕ) → Stabilises g s w → (i : ℕ) → i < sites g → u i ≤ w i

-- u is the least that stabilises s
pub record IsLeast (g : Grid) (s u : ℕ → ℕ) : Type 0 where
  pub stabilises : Stabilises g s u
  pub least : (w : ℕ → ℕ) → Stabilises g s w → (i : ℕ) → i < sites g → u i ≤ w i

-- t is the settled pile of s, and u is its odometer
pub record IsSettled (g : Grid) (s u t : ℕ → ℕ) : Type 0 where
  pub toppled : IsToppled g s u t
  pub odometer : IsLeast g s u

abbrev pub grains : Grid → (ℕ → ℕ) → ℕ
grains g s = sum_below (sites g) s

abbrev pub topplings : Grid → (ℕ → ℕ) → ℕ
topplings g u = sum_below (sites g) u

-- the grains that fall into the sink
abbrev pub lost : Grid → (ℕ → ℕ) → ℕ
lost g u = sum_below (sites g) (λ i. missing g i * u i)

-- the weight of a grain in row y: (y + 1) * (height - y); each row is below the height
unfoldable pub grain_weight : Grid → ℕ → ℕ
grain_weight g i = (row g i + 1) * (g.height - row g i)

abbrev pub weight : Grid → (ℕ → ℕ) → ℕ
weight g s = sum_below (sites g) (λ i. s i * grain_weight g i)
