use Rattle.sand_desk.proofs.Common.{◌≡◌, ◌++◌, take, lines_from, journal_line, dropper_and_site}
use Rattle.sand_desk.proofs.laboratory.push_journal.Given as goal

abbrev pub invariant-loop-number : goal.invariant-loop-number
invariant-loop-number l = l.text.items
    ≡ l.fn.text.items ++ lines_from (λ n e. journal_line l.epoch n (dropper_and_site e)) 0 (take l.number l.journal)
