use Rattle.sand_desk.proofs.Common.{arith, journal_line, dropper_and_site}
use Rattle.sand_text.proofs.NumberedLines.{no_line, one_line_more, all_lines_of}
use Rattle.sand_desk.proofs.laboratory.push_journal.Goals as goal

pub loop-number-init : goal.loop-number-init
loop-number-init c = no_line (λ n e. journal_line c.args.epoch n (dropper_and_site e)) c.args.journal.now _

pub loop-number-preserved : goal.loop-number-preserved
loop-number-preserved c = one_line_more (λ n e. journal_line c.args.epoch n (dropper_and_site e)) c.args.journal.now
    c.loop-number.number _ _ _ _ (omega arith) c.in_ok-push_journal_line.ensures c.loop-number.invariant

pub returns : goal.returns
returns c = all_lines_of dropper_and_site (journal_line c.args.epoch)
    c.args.journal.now c.loop-number.number _ _ (omega arith) c.loop-number.invariant
