use Rattle.std.proofs.Common.{arith}
use Rattle.sand_fronts.proofs.NewPiles.{none_missing}
use Rattle.sand_fronts.proofs.board.missing_at.Goals as goal

pub returns-then-column-width : goal.returns-then-column-width
returns-then-column-width c =
    none_missing c.args.shape c.args.spot.row c.args.spot.column c.if-row-gt0.true
    (omega (arith, c.if-row-height.true, c.height-height.ensures.value)) c.if-column-gt0.true
    (omega (arith, c.if-column-width.true, c.width-width.ensures.value))
