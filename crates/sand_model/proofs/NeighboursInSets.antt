-- How many neighbours of a site are in a set.
use Rattle.sand_model.proofs.Common.{ℕ, Bool, true, false, ◌≡◌, ◌<◌, ◌≤◌, refl, arith, Option, Some, None, count_by, cases_Bool, Grid, sites, neighbours, north, west, east, south, value_at, one_if}
use Rattle.sand_model.specs.Sand.{flow}
use Rattle.sand_model.proofs.Flow.{flow_le, indicator}
use Rattle.sand_model.proofs.Neighbours.{flow_four}
use Rattle.sand_model.proofs.Lists.{at_most_one}

-- a subset contains no more of a site's neighbours
pub count_within : (g : Grid) (set other : ℕ → Bool) (i : ℕ) → i < sites g
    → ((j : ℕ) → j < sites g → set j ≡ true → other j ≡ true)
    → count_by set (neighbours g i) ≤ count_by other (neighbours g i)
unfolding flow
count_within g set other i l within =
    flow_le g (indicator set) (indicator other) (λ j m. grind (arith, cases_Bool (set j), within j m)) i l

place_at_most_one : (set : ℕ → Bool) (p : Option ℕ) → value_at (indicator set) p ≤ 1
place_at_most_one set None = omega arith
place_at_most_one set (Some j) = at_most_one (set j)

pub flow_at_most_four : (g : Grid) (set : ℕ → Bool) (i : ℕ) → flow g (indicator set) i ≤ 4
flow_at_most_four g set i = omega (
  arith,
  flow_four g (indicator set) i,
  place_at_most_one set (north g i),
  place_at_most_one set (west g i),
  place_at_most_one set (east g i),
  place_at_most_one set (south g i),
)

one_in_set : (b : Bool) → 1 ≤ one_if b → b ≡ true
one_in_set true l = refl
one_in_set false l = absurd (omega arith)

north_in_set : (set : ℕ → Bool) (p : Option ℕ) → 1 ≤ value_at (indicator set) p
    → (j : ℕ) × (p ≡ Some j) × (set j ≡ true)
north_in_set set None l = absurd (omega arith)
north_in_set set (Some j) l = (j, refl, one_in_set (set j) l)

-- a site with four neighbours in a set has a northern neighbour in it
pub north_of_four : (g : Grid) (set : ℕ → Bool) (i : ℕ) → 4 ≤ flow g (indicator set) i
    → (j : ℕ) × (north g i ≡ Some j) × (set j ≡ true)
north_of_four g set i l = north_in_set set (north g i) (omega (
  arith,
  flow_four g (indicator set) i,
  place_at_most_one set (west g i),
  place_at_most_one set (east g i),
  place_at_most_one set (south g i),
))
