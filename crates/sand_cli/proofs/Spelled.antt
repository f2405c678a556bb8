-- The words that spell a task ask for it.
use Rattle.sand_cli.proofs.Common.{common_steps, arith, Err, Ok, is_some, ◌≡◌, ◌∙◌, Bool, true, false, List, [], ◌∷◌, Some, None, drop, fold, refl, ap, ap₂, find, option_map, option_map_or, check_fault, defaults_fault, entered_fault, level_fault, settle_fault, turn_fault, Kinds, or_else, App, Shape, built, entered, label_of, names_of, rows_at, subcommand_of, Walk, answers_to, finished, nothing_held, settled, walked, Text, IsWithin, asked, faults, Heeds, words_of, Task, Add, Burn, Drops, Identity, Inverse, Lab, Multiple, Recurrent, Settle}
use Rattle.clap.specs.Faults.{walk_fault}
use Rattle.clap.proofs.OnLiterals.{clap_on_literals}
use Rattle.sand_cli.specs.Fault.{IsUsage}
use Rattle.sand_cli.specs.Line.{command_line}
use Rattle.sand_cli.specs.declared.fault.WordsFault.{WordsFault}
use Rattle.sand_cli.specs.declared.task.Form.TheVariants.{Graymap, Pile}
use Rattle.sand_cli.specs.declared.task.Form.TheVariants as forms
use Rattle.sand_cli.specs.declared.task.Part.TheVariants as parts
use Rattle.sand_cli.proofs.Entering.{Accepts}
use Rattle.sand_cli.proofs.Levels.{drops_asks, identity_asks, lab_asks, multiple_asks}
use Rattle.sand_cli.proofs.Stopped.{passes_stopped, stays, stopped_at}
use Rattle.sand_cli.proofs.Taken.{taken_ask}
use Rattle.sand_cli.proofs.Walks.{Asks, start}
use Rattle.sand_cli.proofs.Within.{drops_built, identity_built, lab_built, multiple_built}

abbrev line : App
line = built command_line

-- a command of the line gets the words after its name: if it asks for the task that they spell, so do they
module _ (program : Text) (s : Shape) (task : Task)
    (met : walked line.top.rules (names_of line) start s.name ≡ stopped_at start s.name [])
    (passes : turn_fault line.top (names_of line) start s.name ≡ [])
    (found : find (λ x. answers_to s.name (label_of x)) line.subs ≡ Some s) where
  abbrev words : List Text
  words = drop 1 (words_of task)

  walk_is : fold (walked line.top.rules (names_of line)) start (s.name ∷ words) ≡ stopped_at start s.name words
  walk_is = ap (λ w. fold (walked line.top.rules (names_of line)) w words) met
      ∙ stays line.top.rules (names_of line) start s.name [] words

  walk_passes : walk_fault line.top (names_of line) start (s.name ∷ words) ≡ []
  unfolding walk_fault
  walk_passes = grind (arith, common_steps, passes_stopped, start)

  named : subcommand_of command_line (program ∷ s.name ∷ words) ≡ Some (rows_at s words)
  unfolding command_line
  named = ap (λ (end : Walk). entered line end.stopped) walk_is ∙ ap (option_map (λ x. rows_at x words)) found

  -- the faults of the line: on the way, in the command that it enters, and at its end
  abbrev line_fault : Kinds → Walk → Kinds → Bool → Kinds
  line_fault before end below has = or_else before (or_else below
      (or_else (settle_fault line.top.rules line.top.args_override_self end.held)
      (or_else (defaults_fault (settled line.top.rules end.held).rows line.top.rules)
      (check_fault line.top (finished line.top.rules end.held) has))))

  no_faults : Accepts s words → faults (program ∷ s.name ∷ words) ≡ []
  unfolding command_line clap_on_literals
  no_faults accepts =
      ap₂ (λ before (end : Walk).
      line_fault before end (entered_fault line end.stopped) (is_some (entered line end.stopped)))
      walk_passes walk_is
      ∙ ap₂ (line_fault [] (stopped_at start s.name words))
      (ap (λ o. option_map_or (λ x. level_fault x [] nothing_held words false []) o []) found ∙ accepts)
      (ap (λ o. is_some (option_map (λ x. rows_at x words) o)) found)

  command_asked : Asks s task → asked (program ∷ s.name ∷ words) ≡ Some task
  command_asked asks = grind (arith, common_steps, taken_ask, no_faults, named)

-- the words that spell a task ask for it
pub spelled_is_asked : (program : Text) (task : Task) → IsWithin task → asked (program ∷ words_of task) ≡ Some task
unfolding command_line clap_on_literals
spelled_is_asked program (Settle Graymap) within = refl
spelled_is_asked program (Settle Pile) within = refl
spelled_is_asked program (Settle forms.Text) within = refl
spelled_is_asked program Burn within = refl
spelled_is_asked program (Identity m n cylinder pgm) within =
    command_asked program identity_built _ refl refl refl (identity_asks m n within cylinder pgm)
spelled_is_asked program (Drops None parts.All) within = refl
spelled_is_asked program (Drops None parts.Table) within = refl
spelled_is_asked program (Drops None parts.Pile) within = refl
spelled_is_asked program (Drops (Some draw) part) within =
    command_asked program drops_built _ refl refl refl (drops_asks draw within part)
spelled_is_asked program (Add true) within = refl
spelled_is_asked program (Add false) within = refl
spelled_is_asked program (Inverse true) within = refl
spelled_is_asked program (Inverse false) within = refl
spelled_is_asked program (Multiple n pgm) within =
    command_asked program multiple_built _ refl refl refl (multiple_asks n within pgm)
spelled_is_asked program (Recurrent true) within = refl
spelled_is_asked program (Recurrent false) within = refl
spelled_is_asked program (Lab wish journal form) within =
    command_asked program lab_built _ refl refl refl (lab_asks wish within.0 journal form within.1)

-- so a parse to the task that is asked for heeds the spelling
pub heeds_by_task : (words : List Text) (t : Task) → asked words ≡ Some t → Heeds words (Ok t)
heeds_by_task words t is program task within same = grind (arith, common_steps, spelled_is_asked)

-- and words that spell a task fail only if memory runs out
pub heeds_by_fault : (words : List Text) (fault : WordsFault) → (IsUsage fault → asked words ≡ None)
    → Heeds words (Err fault)
heeds_by_fault words fault none program task within same = grind (arith, common_steps, spelled_is_asked)
