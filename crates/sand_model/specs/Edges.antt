-- How far a site is from the nearest open edge.
use Rattle.std.specs.Prelude.{ℕ, Bool, ◌+◌, ◌-◌, ◌/◌, if◌then◌else◌, min}
use Rattle.sand_model.specs.Grid.{Grid, joins, column, row}

-- the least distance to an open edge, given those to the four edges; the west and the east edge of a cylinder are not open
abbrev pub least_to_edge : Bool → ℕ → ℕ → ℕ → ℕ → ℕ
least_to_edge joined west east north south =
    if joined then min north south else min (min west east) (min north south)

-- the distance of a site to the nearest open edge, counted from 1: a site at the edge has 1
unfoldable pub to_edge : Grid → ℕ → ℕ
to_edge g i = least_to_edge (joins g.edge) (column g i + 1) (g.width - column g i) (row g i + 1) (g.height - row g i)

-- the greatest of these distances
abbrev pub most_to_edge : Grid → ℕ
most_to_edge g = ((if joins g.edge then g.height else min g.width g.height) + 1) / 2
