-- What is kept with a driven pile.
use Rattle.std.specs.Prelude.{ℕ, ◌≡◌, ◌+◌, ◌≤◌, Bool, true, List, length}
use Rattle.sand_model.specs.Grid.{sites}
use Rattle.sand_model.specs.Edges.{most_to_edge}
use Rattle.sand_model.specs.Piles.{most_grains_on}
use Rattle.sand_settle.specs.Drops.{DrivenView, grid_of_driven}

-- the pile takes `room` more grains, and a count is kept for each site; if they are current, they are the odometer now; and
-- there is a size for each wave that a drop may have
pub record IsDrive (v : DrivenView) (room : ℕ) (kept : List ℕ) (is_current : Bool) (sizes : List ℕ) : Type 0 where
  pub room_left : v.grains + room ≡ most_grains_on (grid_of_driven v)
  pub len : length kept ≡ sites (grid_of_driven v)
  pub current : is_current ≡ true → kept ≡ v.settled.odometer
  pub size_each : most_to_edge (grid_of_driven v) ≤ length sizes
