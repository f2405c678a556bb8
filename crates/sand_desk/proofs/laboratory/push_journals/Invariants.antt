use Rattle.sand_desk.proofs.Common.{◌≡◌, ◌++◌, take, codes, map, lines_from, journal_lines, dropper_and_site}
use Rattle.sand_desk.proofs.laboratory.push_journals.Given as goal

abbrev pub invariant-loop-epoch : goal.invariant-loop-epoch
invariant-loop-epoch l = l.text.items ≡ (l.fn.text.items ++ codes "journal\n")
    ++ lines_from (λ n s. journal_lines n (map dropper_and_site s.journal)) 0 (take l.epoch l.report.sheets)
