-- Integer heights, of any sign: the recurrent pile and the superstable heights of their class, and firing vectors.
-- Sources: Dhar 1990 (classes), Babai and Gorodezky 2007 (from any class to its recurrent pile), Baker and Norine 2007
-- (superstable heights: G-parking functions, reduced divisors).
use Rattle.std.specs.Prelude.{ℕ, ℤ, pos, Bool, ◌≡◌, ◌-◌, ◌<◌, ◌≤ℤ◌, ◌-ℤ◌, List, length, sum_by, count_by, IsTrue, slice_index_or, unsigned_abs}
use Rattle.sand_model.specs.Grid.{Grid, sites, neighbours}
use Rattle.sand_model.specs.Integers.{whole, laplacian, IsEquivalent}
use Rattle.sand_model.specs.Piles.{PileView, height_of}
use Rattle.sand_group.specs.Group.{Represents}

-- a list of integers, read by site
abbrev pub integer_at : List ℤ → ℕ → ℤ
integer_at xs i = slice_index_or xs i (pos 0)

-- the sum of the absolute values of the heights
abbrev pub whole_grains : List ℤ → ℕ
whole_grains heights = sum_by unsigned_abs heights

-- the firing vector z leads from x to c: each site topples z times, less than 0 times if it takes back topplings
pub record IsFired (g : Grid) (x z c : ℕ → ℤ) : Type 0 where
  pub difference : (i : ℕ) → i < sites g → c i ≡ x i -ℤ laplacian g z i

-- the pile is the recurrent pile of the class of x, and the firing vector leads there
pub record IsFiredToRecurrent (g : Grid) (x : ℕ → ℤ) (pile : PileView) (firing : List ℤ) : Type 0 where
  pub grid : pile.grid ≡ g
  pub len : length pile.heights ≡ sites g
  pub firing_each : length firing ≡ sites g
  pub represents : Represents g x (height_of pile)
  pub fired : IsFired g x (integer_at firing) (whole (height_of pile))

-- how many of a site's four edges lead out of a set: to the other sites and to the sink
abbrev pub edges_out : Grid → (ℕ → Bool) → ℕ → ℕ
edges_out g set i = 4 - count_by set (neighbours g i)

-- a non-empty set of sites that can be fired at once without debt: each site has a grain for each of its edges out
pub record CanFire (g : Grid) (s : ℕ → ℤ) (set : ℕ → Bool) : Type 0 where
  pub some : (i : ℕ) × (i < sites g) × IsTrue (set i)
  pub enough : (i : ℕ) → i < sites g → IsTrue (set i) → pos (edges_out g set i) ≤ℤ s i

-- no site is in debt, and no non-empty set of sites can be fired at once without debt
pub record IsSuperstable (g : Grid) (s : ℕ → ℤ) : Type 0 where
  pub no_debt : (i : ℕ) → i < sites g → pos 0 ≤ℤ s i
  pub none : (set : ℕ → Bool) → ¬ CanFire g s set

-- the pile is superstable, and in the class of x
pub record IsSuperstableOf (g : Grid) (x : ℕ → ℤ) (pile : PileView) : Type 0 where
  pub grid : pile.grid ≡ g
  pub len : length pile.heights ≡ sites g
  pub superstable : IsSuperstable g (whole (height_of pile))
  pub equivalent : IsEquivalent g (whole (height_of pile)) x
