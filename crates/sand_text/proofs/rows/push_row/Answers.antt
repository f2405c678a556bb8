use Rattle.sand_text.proofs.Common.{arith, append_assoc, append-nil, usual}
use Rattle.sand_text.proofs.RowSteps.{row_text-next, row_text-end}
use Rattle.sand_text.proofs.rows.push_row.Goals as goal

pub loop-index-preserved : goal.loop-index-preserved
loop-index-preserved c = grind (arith, usual, row_text-next, append_assoc)

pub returns-clause-written : goal.returns-clause-written
returns-clause-written c = grind (arith, usual, row_text-end, append-nil)
