use Rattle.sand_text.proofs.Common.{arith, append_assoc, append-nil, usual}
use Rattle.sand_text.proofs.RowSteps.{rows_text-next, rows_text-none, fewer_rows}
use Rattle.sand_text.proofs.rows.push_sites.Goals as goal

pub rows-preserved : goal.rows-preserved
rows-preserved c = grind (arith, usual, rows_text-next, append_assoc, fewer_rows)

pub returns : goal.returns
returns c = grind (arith, usual, rows_text-none, append-nil)
