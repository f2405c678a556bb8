use Rattle.sand_cli.proofs.line.lab_line.Goals as goal

pub returns : goal.returns
returns c =
    let with_drops = c.with_setting-line-3.ensures _ (c.with_setting-line-2.ensures _
    (c.with_setting-line.ensures _ c.bare_line.ensures)) in
    let with_settings = c.with_setting-line-7.ensures _ (c.with_setting-line-6.ensures _
    (c.with_setting-line-5.ensures _ (c.with_setting-line-4.ensures _ with_drops))) in
    c.with_flag.ensures _ (c.with_flag-line-2.ensures _ (c.with_flag-line.ensures _ with_settings))
