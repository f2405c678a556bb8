use Rattle.sand_cli.proofs.line.settle_line.Goals as goal

pub returns : goal.returns
returns c = c.with_flag.ensures _ (c.with_flag-line.ensures _ c.bare_line.ensures)
