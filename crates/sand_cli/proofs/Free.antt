-- The command line is within clap's model.
use Rattle.sand_cli.proofs.Common.{◌≡◌, true, refl, is_simple, is_simple_and_free}
use Rattle.clap.proofs.OnLiterals.{clap_on_literals}
use Rattle.sand_cli.specs.Line.{command_line}

-- the model describes its matches
pub line_is_simple : is_simple command_line ≡ true
unfolding command_line clap_on_literals
line_is_simple = refl

-- and the kinds of its errors
pub line_is_free : is_simple_and_free command_line ≡ true
unfolding command_line clap_on_literals
line_is_free = refl
