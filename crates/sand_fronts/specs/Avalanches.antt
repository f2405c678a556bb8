-- What makes numbers the avalanche of one drop.
-- Source: chip-firing (size, area, lost); the reach is this project's own.
use Rattle.std.specs.Prelude.{ℕ, Bool, ◌≡◌, ◌<◌, ◌≤◌, nat_lt}
use Rattle.sand_model.specs.Grid.{Grid, sites, distance}
use Rattle.sand_model.specs.Sand.{sum_below, topplings, lost}
use Rattle.sand_model.specs.Lists.{one_if}
use Rattle.sand_fronts.specs.declared.avalanche.Avalanche.{Avalanche}

abbrev pub has_toppled : (ℕ → ℕ) → ℕ → Bool
has_toppled v j = nat_lt 0 (v j)

abbrev pub area_of : Grid → (ℕ → ℕ) → ℕ
area_of g v = sum_below (sites g) (λ j. one_if (has_toppled v j))

-- d is the distance from a site to a site that topples
pub record IsReached (g : Grid) (site : ℕ) (v : ℕ → ℕ) (d : ℕ) : Type 0 where
  pub at : ℕ
  pub inside : at < sites g
  pub topples : 0 < v at
  pub away : distance g site at ≡ d

-- a drop at the site topples each site j v j times; the reach is the greatest distance of a site that topples, or 0
pub record IsAvalanche (g : Grid) (site : ℕ) (v : ℕ → ℕ) (a : Avalanche) : Type 0 where
  pub origin : a.site ≡ site
  pub size : a.size ≡ topplings g v
  pub area : a.area ≡ area_of g v
  pub within : (j : ℕ) → j < sites g → 0 < v j → distance g site j ≤ a.reach
  pub reached : 0 < a.reach → IsReached g site v a.reach
  pub all_lost : a.lost ≡ lost g v
