-- A command line that requires a command enters one if it accepts the words.
use Rattle.sand_cli.proofs.Common.{common_steps, arith, ◌≡◌, Bool, true, false, not, ◌&&◌, List, [], Option, Some, None, find, Kinds, check_kinds, or_else, answers_to, nothing_held, stop_after, App, Shape, label_of, names_of, built_fault, level_fault}
use Rattle.clap.specs.Walk.{Text}

-- if two steps in a row do not fail, neither step does
pub first_passes : (a b : Kinds) → or_else a b ≡ [] → a ≡ []
first_passes a b e = grind (arith, common_steps)

pub second_passes : (a b : Kinds) → or_else a b ≡ [] → b ≡ []
second_passes a b e = grind (arith, common_steps)

pub ruleset steps_pass = (first_passes, second_passes)

-- the level accepts the words
abbrev pub Accepts : Shape → List Text → Type 0
Accepts s words = level_fault s [] nothing_held words false [] ≡ []

-- the walk stopped at a command of the line, and that command's level accepts the words after it
abbrev pub Enters : App → Option (Text × List Text) → Type 0
Enters a None = ⊥
Enters a (Some p) = (s : Shape) × (find (λ s. answers_to p.0 (label_of s)) a.subs ≡ Some s) × Accepts s p.1

wants : (help has required argument : Bool) → required ≡ true → check_kinds help (not has && required) argument ≡ []
    → has ≡ true
wants help has required argument r e = grind (arith, common_steps)

-- if a command line requires a command and accepts the words, they name one
pub enters : (a : App) (words : List Text) → a.top.subcommand_required ≡ true → built_fault a nothing_held words ≡ []
    → Enters a (stop_after a.top.rules (names_of a) words)
enters a words required e = grind (arith, common_steps, first_passes, wants, second_passes)
