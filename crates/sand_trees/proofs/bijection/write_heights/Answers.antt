use Rattle.sand_trees.proofs.Common.{◌*◌, arith, ap}
use Rattle.sand_trees.proofs.Heights.{inner_row}
use Rattle.sand_trees.proofs.bijection.write_heights.Goals as goal

pub write_inner-requires-clause-inner : goal.write_inner-requires-clause-inner
write_inner-requires-clause-inner c = λ k after before.
    let width = c.width-width.ensures.value in
    let height = c.height-row-end.ensures.value in
    let above = ap (λ w. c.loop-row.row * w) width in
    inner_row c.args.shape c.loop-row.row k (omega (arith, c.loop-row.auto.row)) (omega (arith, c.loop-row-test.true))
    (omega arith) (omega arith)
