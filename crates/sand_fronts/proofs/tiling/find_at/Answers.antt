-- The definitions divide the site to find its row and its column; here they are given, and are the same (`found_at`).
use Rattle.std.proofs.Common.{◌+◌, ◌*◌, arith}
use Rattle.sand_fronts.proofs.Boards.{found_at, tile_inside}
use Rattle.sand_fronts.proofs.OnTiles.{place_below}
use Rattle.sand_fronts.proofs.tiling.find_at.Goals as goal

pub returns-clause-tile : goal.returns-clause-tile
returns-clause-tile c = (found_at c.args.shape c.args.row c.args.column c.pitch.result c.requires.0 c.pitch.ensures.value).0

pub returns-clause-place : goal.returns-clause-place
returns-clause-place c =
    (found_at c.args.shape c.args.row c.args.column c.pitch.result c.requires.0 c.pitch.ensures.value).1

pub returns-clause-inside : goal.returns-clause-inside
returns-clause-inside c =
    let j = c.args.row * c.args.shape.width + c.args.column in
    let at = found_at c.args.shape c.args.row c.args.column c.pitch.result c.requires.0 c.pitch.ensures.value in
    let tile = tile_inside c.args.shape j c.requires.1 in
    let place = place_below c.args.shape j in
    (omega arith, omega arith)
