-- No column of the tile is farther than the first or the last one, and no row. On a cylinder the shorter way to a
-- column is at most half the width.
use Rattle.sand_fronts.proofs.Common.{◌+◌, ◌/◌, ◌%◌, ◌≤◌, arith, abs_diff}
use Rattle.sand_fronts.proofs.reach.farthest.Goals as goal

pub returns : goal.returns
returns c p low =
    let across : abs_diff c.args.from.column (c.args.corner.column + p % 8) ≤ c.max-across.result =
    omega (arith, c.abs_diff.ensures, c.abs_diff-2.ensures, c.max-across.ensures) in
    let down : abs_diff c.args.from.row (c.args.corner.row + p / 8) ≤ c.max-down.result =
    omega (arith, c.abs_diff-3.ensures, c.abs_diff-4.ensures, c.max-down.ensures) in
    grind arith
