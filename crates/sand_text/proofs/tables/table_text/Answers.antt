use Rattle.std.proofs.Common.{arith, append-nil, ◌∙◌, sym}
use Rattle.sand_text.proofs.TableSteps.{one_line, entries_text-end}
use Rattle.sand_text.proofs.tables.table_text.Goals as goal

pub loop-number-preserved : goal.loop-number-preserved
loop-number-preserved c = one_line c.args.rows.now c.loop-number.number-index _
    c.loop-number.text.items _ _ (omega arith)
    (rw c.fields_of.ensures at c.in_ok-push_row.ensures.written) c.loop-number.invariant

pub returns : goal.returns
returns c =
    let none = entries_text-end c.args.rows.now c.loop-number.number-index (omega arith) in
    sym (append-nil _) ∙ rw none at c.loop-number.invariant
