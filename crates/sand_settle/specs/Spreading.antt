-- What a toppling gives to the neighbours of its site.
use Rattle.std.specs.Prelude.{ℕ, ◌≡◌, ◌+◌, ◌*◌, ◌<◌, List, slice_index}
use Rattle.sand_model.specs.Grid.{Grid, sites}
use Rattle.sand_model.specs.Sand.{one_at, flow}

-- the heights h become k when each neighbour of the site gets `times` grains
abbrev pub NeighboursGain : Grid → ℕ → ℕ → List ℕ → List ℕ → Type 0
NeighboursGain g site times h k =
    (j : ℕ) → j < sites g → slice_index k j ≡ slice_index h j + times * flow g (one_at site) j
