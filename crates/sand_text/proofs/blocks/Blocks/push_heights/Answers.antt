use Rattle.sand_text.proofs.Common.{◌-◌, ◌+◌, arith, sub-zero, err_from_is_err_and, rows_text, usual}
use Rattle.sand_text.proofs.Growing.{nothing_added, part_added, all_added, part_breaks}
use Rattle.sand_text.proofs.RowSteps.{rows_text-next, rows_text-none, fewer_rows}
use Rattle.sand_text.proofs.blocks.Blocks.push_heights.Goals as goal

pub rows-init : goal.rows-init
rows-init g c = grind (arith, usual, nothing_added, sub-zero)

pub rows-preserved : goal.rows-preserved
rows-preserved g c = record {
  grown = part_added c.rows.invariant.grown (grind (arith, usual, rows_text-next)) c.in_ok-push_row.ensures.ok;
  left = grind (arith, usual, fewer_rows);
}

pub returns-in_err-push_row-clause-err : goal.returns-in_err-push_row-clause-err
returns-in_err-push_row-clause-err g c =
    let p = err_from_is_err_and c.from_residual.result c.from_residual.ensures.1 in
    let grid = c.shape-shape.result in
    let left = rows_text (grid.height - c.rows.counter) grid.width c.rows.rest.now in
    let rest = rows_text (grid.height - (c.rows.counter + 1)) grid.width c.split_at.result.1.now in
    rw (p.1, p.2) (part_breaks left rest c.rows.invariant.grown (grind (arith, usual, rows_text-next))
    c.in_err-push_row.ensures.err)

pub returns-clause-ok : goal.returns-clause-ok
returns-clause-ok g c = grind (arith, usual, rows_text-none, all_added)
