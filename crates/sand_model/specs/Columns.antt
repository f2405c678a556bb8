-- The columns of all sites, by site.
use Rattle.std.specs.Prelude.{ℕ, ◌≡◌, ◌<◌, List, length, slice_index}
use Rattle.sand_model.specs.Grid.{Grid, sites, column}

pub record AreSiteColumns (g : Grid) (columns : List ℕ) : Type 0 where
  pub len : length columns ≡ sites g
  pub each : (i : ℕ) → i < sites g → slice_index columns i ≡ column g i
