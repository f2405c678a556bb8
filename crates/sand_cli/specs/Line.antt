-- The accepted command line, in terms of clap's model.
use Rattle.std.specs.Prelude.{ℕ, ◌≡◌, [], ◌∷◌, IfOk, Result, Some, codes, false, fold, true}
use Rattle.std.specs.declared.alloc.AllocError.{AllocError}
use Rattle.clap.specs.Words.{App, Rule, Text, app_of, new_app, new_rule, with_rule, with_subcommand}
use Rattle.clap.specs.Simple.{on_top}
use Rattle.sand_wish.specs.Plans.{most_droppers, most_drops, most_epochs, most_observers, most_sweeps, most_workers}
use Rattle.clap.specs.declared.builder.action.ArgAction.TheVariants.{Set, SetTrue}
use Rattle.clap.specs.declared.builder.command.Command.{Command}
use Rattle.clap.specs.declared.builder.command.Command.TheViews.{out-Command}
use Rattle.clap.specs.declared.builder.value_parser.ValueParser.TheVariants as parser

-- an option without a value
abbrev pub flag : Text → Rule
flag name = record (new_rule name) { long = Some name; action = Some SetTrue }

-- an option with an integer from `least` to `most`
abbrev pub number : Text → ℕ → ℕ → Rule
number name least most = record (new_rule name) {
  long = Some name;
  action = Some Set;
  value_names = 1;
  parser = Some (parser.Unsigned least most);
}

-- an option with an integer from `least` to `most`; required
abbrev pub required : Text → ℕ → ℕ → Rule
required name least most = record (number name least most) { required = true }

-- an option with an integer that defaults to `usual`
abbrev pub setting : Text → ℕ → ℕ → Text → Rule
setting name least most usual = record (number name least most) { defaults = usual ∷ [] }

-- a command with no options
abbrev pub bare_line : Text → App
bare_line name = new_app name

abbrev pub settle_line : App
settle_line = fold with_rule (bare_line (codes "settle")) (flag (codes "pile") ∷ flag (codes "pgm") ∷ [])

abbrev pub drops_line : App
drops_line = fold with_rule (bare_line (codes "drops")) (
    number (codes "count") 0 4294967295 ∷ number (codes "seed") 0 4294967295 ∷ number (codes "stream") 0 4294967295
    ∷ number (codes "from") 0 4294967295 ∷ flag (codes "table") ∷ flag (codes "pile") ∷ []
    )

-- a command with `--pgm` alone
abbrev pub pgm_line : Text → App
pgm_line name = with_rule (bare_line name) (flag (codes "pgm"))

abbrev pub identity_line : App
identity_line = fold with_rule (bare_line (codes "identity"))
    (required (codes "width") 1 256 ∷ required (codes "height") 1 256 ∷ flag (codes "cylinder") ∷ flag (codes "pgm") ∷ [])

abbrev pub multiple_line : App
multiple_line = fold with_rule (bare_line (codes "multiple"))
    (required (codes "times") 0 18446744073709551615 ∷ flag (codes "pgm") ∷ [])

abbrev pub lab_line : App
lab_line = fold with_rule (bare_line (codes "lab")) (
    setting (codes "seed") 0 4294967295 (codes "0")
    ∷ setting (codes "droppers") 1 most_droppers (codes "2")
    ∷ setting (codes "drops") 0 most_drops (codes "100")
    ∷ setting (codes "epochs") 1 most_epochs (codes "1")
    ∷ setting (codes "workers") 1 most_workers (codes "1")
    ∷ setting (codes "sweeps") 0 most_sweeps (codes "0")
    ∷ setting (codes "observers") 0 most_observers (codes "0")
    ∷ flag (codes "journal") ∷ flag (codes "pile") ∷ flag (codes "pgm") ∷ []
    )

-- a command is required, and `help` is not one
abbrev pub wanting_command : App → App
wanting_command line = on_top (λ s. record s { subcommand_required = true; disable_help_subcommand = true }) line

-- the line with one more command
abbrev pub or_command : App → App → App
or_command line command = with_subcommand line command.top

-- `sandpile`, which requires one of its commands
unfoldable pub command_line : App
command_line = fold or_command (wanting_command (bare_line (codes "sandpile"))) (
    settle_line ∷ bare_line (codes "burn") ∷ identity_line ∷ drops_line ∷ pgm_line (codes "add")
    ∷ pgm_line (codes "inverse") ∷ multiple_line ∷ pgm_line (codes "recurrent") ∷ lab_line ∷ []
    )

-- the command has this line, and no global options
pub record IsLine (command : Command) (line : App) : Type 0 where
  pub line_is : app_of command ≡ line
  pub local : (out-Command command).has_globals ≡ false

-- the command, if there is one, has this line, and no global options
abbrev pub IfLine : Result Command AllocError → App → Type 0
IfLine command line = IfOk command (λ c. IsLine c line)

-- the second command, if there is one, is the first with one more option
abbrev pub AddsRule : Result Command AllocError → Result Command AllocError → Rule → Type 0
AddsRule from to rule = (line : App) → IfLine from line → IfLine to (with_rule line rule)
