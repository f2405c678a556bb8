-- What contracts see of a pile: its grid, and the list of its heights by site.
use Rattle.std.specs.Prelude.{ℕ, ◌≡◌, ◌+◌, ◌*◌, ◌/◌, ◌≤◌, List, length, sum, slice_index, min}
use Rattle.sand_model.specs.Grid.{Grid, IsGrid, sites}

-- the most grains that any pile holds, 2^40 - 1
abbrev pub most_grains : ℕ
most_grains = 1099511627775

-- four times what a grain weighs at most: in row y it weighs (y + 1) * (height - y), which is at most ((height + 1) / 2)^2
unfoldable pub heaviest : Grid → ℕ
heaviest g = (g.height + 1) * (g.height + 1)

-- the most grains of a pile on a grid: 2^40 - 1, or fewer if four times their weight could be 2^57, as on more than 361 rows.
-- A toppling takes 2 of the weight, so they topple less than 2^54 times
abbrev pub most_grains_on : Grid → ℕ
most_grains_on g = min most_grains (144115188075855871 / heaviest g)

pub record PileView : Type 0 where
  pub grid : Grid
  pub heights : List ℕ

abbrev pub height_of : PileView → ℕ → ℕ
height_of p = slice_index p.heights

-- one height for each site, and no more grains than the limit
pub record IsPile (p : PileView) : Type 0 where
  pub grid : IsGrid p.grid
  pub len : length p.heights ≡ sites p.grid
  pub limit : sum p.heights ≤ most_grains_on p.grid
