use Rattle.sand_cli.proofs.Common.{◌∙◌, ap, true, Shape, app_of_fields, on_top}
use Rattle.sand_cli.specs.Line.{command_line}
use Rattle.sand_cli.proofs.line.command_line.Goals as goal

pub returns : goal.returns
unfolding command_line
returns c =
    let required : Shape → Shape = λ s. record s { subcommand_required = true } in
    let helpless : Shape → Shape = λ s. record s { disable_help_subcommand = true } in
    let top_is = ap app_of_fields c.disable_help_subcommand-top.ensures ∙ ap (on_top helpless)
    (ap app_of_fields c.subcommand_required.ensures ∙ ap (on_top required)
    (ap app_of_fields c.after_help.ensures ∙ c.bare_line.ensures.line_is)) in
    let with_drops = c.with_command-line-4.ensures _ _ (c.with_command-line-3.ensures _ _
    (c.with_command-line-2.ensures _ _ (c.with_command-line.ensures _ _ top_is c.settle_line.ensures)
    c.bare_line-2.ensures) c.identity_line.ensures) c.drops_line.ensures in
    let with_recurrent = c.with_command-line-8.ensures _ _ (c.with_command-line-7.ensures _ _
    (c.with_command-line-6.ensures _ _ (c.with_command-line-5.ensures _ _ with_drops c.pgm_line.ensures)
    c.pgm_line-2.ensures) c.multiple_line.ensures) c.pgm_line-3.ensures in
    c.with_command.ensures _ _ with_recurrent c.lab_line.ensures
