-- The names of the commands and of the options without a value.
use Rattle.std.specs.Prelude.{Bool, true, false, ◌&&◌}
use Rattle.std.specs.List.{list_any}
use Rattle.std.specs.Option.{option_map_or}
use Rattle.std.specs.Str.{bytes_eq}
use Rattle.clap.specs.Words.{Rule, Text}
use Rattle.sand_cli.specs.Line.{command_line}
use Rattle.clap.specs.declared.builder.action.ArgAction.{ArgAction}
use Rattle.clap.specs.declared.builder.action.ArgAction.TheVariants.{SetTrue}

-- the command line has a command of this name
abbrev pub is_command : Text → Bool
is_command word = list_any (λ command. bytes_eq word command.name) command_line.subs

-- the option has no value
abbrev pub sets_true : ArgAction → Bool
sets_true SetTrue = true
sets_true _ = false

-- the option has this name, and no value
abbrev pub is_flag_named : Text → Rule → Bool
is_flag_named name rule =
    option_map_or sets_true rule.action false && option_map_or (bytes_eq name) rule.long false

-- a command has such an option
abbrev pub is_flag : Text → Bool
is_flag name = list_any (λ command. list_any (is_flag_named name) command.rules) command_line.subs
