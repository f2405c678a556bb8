use Rattle.sand_cli.proofs.line.pgm_line.Goals as goal

pub returns : goal.returns
returns c = c.with_flag.ensures _ c.bare_line.ensures
