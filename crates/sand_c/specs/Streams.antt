-- What `sandpile_sites` does.
use Rattle.std.specs.Prelude.{ℕ, ◌≡◌, ◌+◌, ◌<◌, List, length, get_or, Result, Ok}
use Rattle.sand_model.specs.Grid.{Grid, sites}
use Rattle.sand_streams.specs.Streams.{site_at}
use Rattle.sand_c.specs.declared.faults.Fault.{Fault}

-- the arguments are a grid, and what was written are the sites of the stream from its place `from` on
pub record IsDrawing (meaning : Result Grid Fault) (seed stream from : ℕ) (after : List ℕ) : Type 0 where
  pub grid : Grid
  pub meant : meaning ≡ Ok grid
  pub drawn : (i : ℕ) → i < length after → get_or after i 0 ≡ site_at (sites grid) seed stream (from + i)
