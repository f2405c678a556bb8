use Rattle.sand_desk.proofs.Common.{◌≡◌, ◌++◌, take, lines_from, epoch_line, sums_of}
use Rattle.sand_desk.proofs.laboratory.push_epochs.Given as goal

abbrev pub invariant-loop-epoch : goal.invariant-loop-epoch
invariant-loop-epoch l =
    l.text.items ≡ l.fn.text.items ++ lines_from (λ n r. epoch_line n (sums_of r)) 0 (take l.epoch l.records)
