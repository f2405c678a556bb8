use Rattle.sand_desk.proofs.Common.{rules, ℕ, List, [], ◌++◌, ◌∙◌, ap, codes, map, append_assoc, journal_lines, lines_from, None, SheetView, dropper_and_site}
use Rattle.sand_text.proofs.NumberedLines.{no_line, one_line_more, all_lines_of}
use Rattle.sand_lab.specs.declared.journal.Entry.{Entry}
use Rattle.sand_desk.proofs.laboratory.push_journals.Goals as goal

abbrev drops_of : SheetView → List (ℕ × ℕ)
drops_of s = map dropper_and_site s.journal

abbrev blank : SheetView
blank = record { journal = []; tallies = []; swept = []; place = 0; shown = None }

pub loop-epoch-init : goal.loop-epoch-init
loop-epoch-init c =
    let head = rw c.in_ok-extend_from_slice.was at c.extend_from_slice.ensures.items in
    head ∙ no_line (λ n s. journal_lines n (drops_of s))
    c.args.report.now.sheets (c.args.text.now.items ++ codes "journal\n")

pub loop-epoch-preserved : goal.loop-epoch-preserved
loop-epoch-preserved c =
    let start = c.args.text.now.items ++ codes "journal\n" in
    let line : ℕ → SheetView → List ℕ = λ n s. journal_lines n (drops_of s) in
    let grown = c.in_ok-push_journal.ensures
    ∙ ap (λ (es : List Entry). c.loop-epoch.text.items ++ journal_lines c.loop-epoch.epoch (map dropper_and_site es))
    c.journal.ensures in
    one_line_more line c.args.report.now.sheets c.loop-epoch.epoch blank start
    c.loop-epoch.text.items c.push_journal.new.text.items (search rules) grown c.loop-epoch.invariant

pub returns : goal.returns
returns c =
    let start = c.args.text.now.items ++ codes "journal\n" in
    let sheets = c.args.report.now.sheets in
    all_lines_of drops_of journal_lines sheets c.loop-epoch.epoch start
    c.loop-epoch.text.items (search rules) c.loop-epoch.invariant
    ∙ append_assoc c.args.text.now.items (codes "journal\n") (lines_from journal_lines 0 (map drops_of sheets))
