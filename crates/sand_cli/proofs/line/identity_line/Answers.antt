use Rattle.sand_cli.proofs.line.identity_line.Goals as goal

pub returns : goal.returns
returns c = c.with_flag.ensures _ (c.with_flag-line.ensures _
    (c.with_required-line-2.ensures _ (c.with_required-line.ensures _ c.bare_line.ensures)))
