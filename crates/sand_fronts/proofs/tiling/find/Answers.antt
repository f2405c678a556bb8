-- The site is its row times the width plus its column (`site_parts`), for which the tile and the place are found.
use Rattle.sand_fronts.proofs.Common.{◌≡◌, ◌+◌, ◌*◌, ◌<◌, ◌∙◌, ap, arith, tile_of, place_of}
use Rattle.sand_fronts.proofs.Boards.{site_parts}
use Rattle.sand_fronts.proofs.tiling.find.Goals.{After-place-column}
use Rattle.sand_fronts.proofs.tiling.find.Goals as goal

parts : (c : After-place-column) → (c.place-column.result.0 < c.args.shape.width)
    × (c.place-column.result.1 * c.args.shape.width + c.place-column.result.0 ≡ c.args.site)
parts c = site_parts c.args.shape c.args.site c.place-column.result c.requires c.place-column.ensures

pub find_at-requires : goal.find_at-requires
find_at-requires c = let p = parts (goal.at.find_at-requires c).After-place-column in (p.0, omega arith)

pub returns-clause-tile : goal.returns-clause-tile
returns-clause-tile c =
    c.find_at.ensures.tile ∙ ap (tile_of c.args.shape) (parts (goal.at.returns-clause-tile c).After-place-column).1

pub returns-clause-place : goal.returns-clause-place
returns-clause-place c =
    c.find_at.ensures.place ∙ ap (place_of c.args.shape) (parts (goal.at.returns-clause-place c).After-place-column).1
