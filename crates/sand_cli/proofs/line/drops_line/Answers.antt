use Rattle.sand_cli.proofs.line.drops_line.Goals as goal

pub returns : goal.returns
returns c = c.with_flag.ensures _ (c.with_flag-line.ensures _ (c.with_word-line-4.ensures _ (c.with_word-line-3.ensures _
    (c.with_word-line-2.ensures _ (c.with_word-line.ensures _ c.bare_line.ensures)))))
