-- What a pile settles to: the heights of the settled pile, and the odometer.
use Rattle.std.specs.Prelude.{◌≡◌, length, slice_index}
use Rattle.sand_model.specs.Grid.{sites}
use Rattle.sand_model.specs.Sand.{IsSettled}
use Rattle.sand_model.specs.Piles.{PileView, height_of}
use Rattle.sand_settle.specs.declared.choice.Rest.{Rest}

pub record ComesToRest (p : PileView) (r : Rest) : Type 0 where
  pub heights_each : length r.heights.items ≡ sites p.grid
  pub odometer_each : length r.odometer.items ≡ sites p.grid
  pub settled : IsSettled p.grid (height_of p) (slice_index r.odometer.items) (slice_index r.heights.items)
