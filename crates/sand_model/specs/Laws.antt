-- The laws of toppling, over all grids and all piles.
use Rattle.std.specs.Prelude.{ℕ, ℤ, pos, min, ◌≡◌, ◌+◌, ◌*◌, ◌^◌, ◌<◌, ◌≤◌, ◌↔◌, ◌+ℤ◌, ◌-ℤ◌, ◌*ℤ◌, ◌≤ℤ◌, List, [], ◌∷◌, All, length, sum, slice_index}
use Rattle.sand_model.specs.Grid.{Grid, IsGrid, sites, missing, middle}
use Rattle.sand_model.specs.Edges.{to_edge, most_to_edge}
use Rattle.sand_model.specs.Forbidden.{IsTight}
use Rattle.sand_model.specs.Sand.{flow, occurrences, one_at, IsStable, IsToppled, Stabilises, IsUnderway, IsLeast, IsSettled, grains, topplings, lost, weight}
use Rattle.sand_model.specs.Piles.{most_grains, most_grains_on}
use Rattle.sand_model.specs.Integers.{laplacian, whole_sum_below, whole, IsEquivalent}

-- after each site has toppled u times, site i may topple: s - Lu is at least 4 there
pub record MayToppleAfter (g : Grid) (s u : ℕ → ℕ) (i : ℕ) : Type 0 where
  pub site : i < sites g
  pub high : 4 * u i + 4 ≤ s i + flow g u i

-- the sites of the list topple one after another, each of them legally
abbrev pub AreLegal : Grid → (ℕ → ℕ) → (ℕ → ℕ) → List ℕ → Type 0
AreLegal g s u [] = Unit {0}
AreLegal g s u (i ∷ order) = MayToppleAfter g s u i × AreLegal g s (λ j. u j + one_at i j) order

-- legal topplings never exceed any w that stabilises the pile
abbrev pub LeastAction : Type 0
LeastAction = (g : Grid) (s w : ℕ → ℕ) (order : List ℕ) → AreLegal g s (λ j. 0) order → Stabilises g s w
    → (i : ℕ) → i < sites g → occurrences order i ≤ w i

-- one toppling lowers the weight by at least 2
abbrev pub WeightFalls : Type 0
WeightFalls = (g : Grid) (s t : ℕ → ℕ) (i : ℕ) → i < sites g → IsToppled g s (one_at i) t → weight g t + 2 ≤ weight g s

-- the grains before are the grains after and the grains lost
abbrev pub LaplacianSum : Type 0
LaplacianSum = (g : Grid) (s u t : ℕ → ℕ) → IsToppled g s u t → grains g s ≡ grains g t + lost g u

-- the same over the integers, for every u, legal or not
abbrev pub LaplacianSumOverIntegers : Type 0
LaplacianSumOverIntegers = (g : Grid) (s u : ℕ → ℤ) → whole_sum_below (sites g) s
    ≡ whole_sum_below (sites g) (λ i. s i -ℤ laplacian g u i)
    +ℤ whole_sum_below (sites g) (λ i. pos (missing g i) *ℤ u i)

-- each pile has a settled pile and a least odometer
abbrev pub EachSettles : Type 0
EachSettles = (g : Grid) (s : ℕ → ℕ) → (u : ℕ → ℕ) × (t : ℕ → ℕ) × IsSettled g s u t

-- settling in two parts is settling at once, and the odometers add
abbrev pub Abelian : Type 0
Abelian = (g : Grid) (a b u t v r : ℕ → ℕ) → IsSettled g a u t → IsSettled g (λ i. t i + b i) v r
    → IsSettled g (λ i. a i + b i) (λ i. u i + v i) r

-- the same after topplings that need not settle anything: if u is at most every w that stabilises s, and s - Lu is a
-- pile h, then the odometer of s is u plus the odometer of h (least action; Fey, Levine and Peres 2010)
abbrev pub SettlesAfter : Type 0
SettlesAfter =
    (g : Grid) (s u h v t : ℕ → ℕ) → IsUnderway g s u h → IsSettled g h v t → IsSettled g s (λ i. u i + v i) t

-- a pile has one odometer and one settled pile
abbrev pub SettledOnce : Type 0
SettledOnce = (g : Grid) (s u v t r : ℕ → ℕ) → IsSettled g s u t → IsSettled g s v r → (i : ℕ) → i < sites g
    → (u i ≡ v i) × (t i ≡ r i)

-- topplings settle the pile if they leave at most 3 at each site, and no forbidden set of sites that have all toppled
abbrev pub LeastIfTight : Type 0
LeastIfTight = (g : Grid) (s u t : ℕ → ℕ) → IsToppled g s u t → IsStable g t → IsTight g t u → IsSettled g s u t

-- t = s - Lu over the integers
abbrev pub ToppledOverIntegers : Type 0
ToppledOverIntegers = (g : Grid) (s u t : ℕ → ℕ) → IsToppled g s u t
    ↔ ((i : ℕ) → i < sites g → pos (t i) ≡ pos (s i) -ℤ laplacian g (whole u) i)

-- s - Lu ≤ 3 over the integers
abbrev pub StabilisesOverIntegers : Type 0
StabilisesOverIntegers = (g : Grid) (s u : ℕ → ℕ) → Stabilises g s u
    ↔ ((i : ℕ) → i < sites g → (pos (s i) -ℤ laplacian g (whole u) i) ≤ℤ pos 3)

-- a pile and its settled pile are equivalent
abbrev pub SettledIsEquivalent : Type 0
SettledIsEquivalent = (g : Grid) (s u t : ℕ → ℕ) → IsSettled g s u t → IsEquivalent g (whole s) (whole t)

-- the sum of a list of heights is the grains at its sites
abbrev pub SumIsGrains : Type 0
SumIsGrains = (g : Grid) (heights : List ℕ) → length heights ≡ sites g → sum heights ≡ grains g (slice_index heights)

-- the grains of two piles together are those of the one and those of the other
abbrev pub GrainsAddUp : Type 0
GrainsAddUp = (g : Grid) (a b : ℕ → ℕ) → grains g (λ i. a i + b i) ≡ grains g a + grains g b

-- each drop of a list is one grain
abbrev pub DropsAreGrains : Type 0
DropsAreGrains =
    (g : Grid) (drops : List ℕ) → All (λ i. i < sites g) drops → grains g (occurrences drops) ≡ length drops

-- what is outside the grid does not count: the same numbers at each site settle alike
abbrev pub SettledBySite : Type 0
SettledBySite = (g : Grid) (s s' u u' t t' : ℕ → ℕ) → ((i : ℕ) → i < sites g → s i ≡ s' i)
    → ((i : ℕ) → i < sites g → u i ≡ u' i) → ((i : ℕ) → i < sites g → t i ≡ t' i)
    → IsSettled g s u t → IsSettled g s' u' t'

-- a grain dropped at site a of a stable pile topples each site at most as often as that site's distance to the nearest open
-- edge, and as the distance of a
abbrev pub DropsToppleFew : Type 0
DropsToppleFew = (g : Grid) (s u : ℕ → ℕ) (a : ℕ) → a < sites g → IsStable g s → IsLeast g (λ j. s j + one_at a j) u
    → (i : ℕ) → i < sites g → u i ≤ min (to_edge g i) (to_edge g a)

-- no site is farther from the nearest open edge than the middle is
abbrev pub NoneIsFarther : Type 0
NoneIsFarther = (g : Grid) (i : ℕ) → i < sites g → to_edge g i ≤ most_to_edge g

abbrev pub MiddleIsFarthest : Type 0
MiddleIsFarthest = (g : Grid) → IsGrid g → to_edge g (middle g) ≡ most_to_edge g

abbrev pub EdgeIsNear : Type 0
EdgeIsNear = (g : Grid) → 2 * most_to_edge g ≤ g.height + 1

-- grains within the limit of their grid topple less than 2^54 times
abbrev pub TopplingsAreFew : Type 0
TopplingsAreFew = (g : Grid) (s u t : ℕ → ℕ) → grains g s ≤ most_grains_on g → IsToppled g s u t → topplings g u < 2 ^ 54

-- on a grid of at most 256 rows that is 2^40 - 1, on no grid more, and on each there is room for 18 grains a site
abbrev pub LimitIsHigh : Type 0
LimitIsHigh = (g : Grid) → g.height ≤ 256 → most_grains_on g ≡ most_grains

abbrev pub LimitIsLow : Type 0
LimitIsLow = (g : Grid) → most_grains_on g ≤ most_grains

abbrev pub LimitHasRoom : Type 0
LimitHasRoom = (g : Grid) → IsGrid g → 18 * sites g ≤ most_grains_on g
