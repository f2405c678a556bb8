use Rattle.sand_desk.proofs.Common.{◌++◌, ◌∙◌, ap, arith, epoch_line, sums_of}
use Rattle.sand_text.proofs.NumberedLines.{no_line, one_line_more, all_lines_of}
use Rattle.sand_desk.proofs.laboratory.push_epochs.Goals as goal

pub loop-epoch-init : goal.loop-epoch-init
loop-epoch-init c = no_line (λ n r. epoch_line n (sums_of r)) c.args.records.now _

pub loop-epoch-preserved : goal.loop-epoch-preserved
loop-epoch-preserved c =
    let closed = c.index-records-epoch.result in
    let grown = c.in_ok-push_epoch.ensures ∙ ap (λ s. c.loop-epoch.text.items ++ epoch_line c.loop-epoch.epoch s)
    (c.sums_of.ensures ∙ ap sums_of c.index-records-epoch.is) in
    one_line_more (λ n r. epoch_line n (sums_of r)) c.args.records.now
    c.loop-epoch.epoch closed _ _ _ (omega arith) grown c.loop-epoch.invariant

pub returns : goal.returns
returns c = all_lines_of sums_of epoch_line c.args.records.now c.loop-epoch.epoch _ _ (omega arith) c.loop-epoch.invariant
