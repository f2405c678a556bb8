-- The result of a parse, in terms of what clap guarantees.
use Rattle.sand_cli.proofs.Common.{common_steps, arith, ◌≡◌, ◌↔◌, ◌∙◌, true, List, [], ◌∷◌, Option, Some, None, refl, sym, ap, ap₂, subst, IfSome, option_and_then, option_map, HasKind, HasMatchesOf, Text, fault_of, is_simple, is_simple_and_free, kind_of, subcommand_rows_of, argument_words, entered, label_of, rows_at, answers_to, AskForHelp, IsWithin, asked, conflict_among, conflict_of, faults, freely, task_named, unless, Conflict, Task}
use Rattle.clap.specs.Words.{App, IsAmong, Kinds, subcommand_of, built}
use Rattle.clap.specs.declared.error.Error.{Error}
use Rattle.clap.specs.declared.parser.matches.ArgMatches.{ArgMatches}
use Rattle.sand_cli.specs.Line.{command_line}
use Rattle.sand_cli.specs.Fault.{IsFaultOf, IsOfKinds, IsUsage, ShowsHelp, TellsConflict}
use Rattle.sand_cli.specs.declared.fault.WordsFault.{WordsFault}
use Rattle.sand_cli.specs.declared.fault.WordsFault.TheVariants.{Clash, Memory, Usage}
use Rattle.sand_cli.proofs.Each.{Each, each_found, ◌&◌}
use Rattle.sand_cli.proofs.Entering.{Enters, enters}
use Rattle.sand_cli.proofs.HelpAlone.{help_alone}
use Rattle.sand_cli.proofs.Within.{AsksWithin, IsSound, drops_within, identity_within, lab_within, multiple_within}
use Rattle.sand_cli.proofs.Free.{line_is_free, line_is_simple}

-- if a parse succeeds, its words have no fault
pub taken : (a : App) (words : List Text) → a ≡ command_line → (is_simple_and_free a ≡ true → fault_of a words ≡ [])
    → faults words ≡ []
taken a words line h = ap (λ b. fault_of b words) (sym line) ∙ h (ap is_simple_and_free line ∙ line_is_free)

-- and it names the command that clap's model finds
pub names : (a : App) (words : List Text) (m : ArgMatches) → a ≡ command_line → HasMatchesOf a words m
    → subcommand_rows_of m ≡ subcommand_of command_line words
names a words m line h = (h (ap is_simple line ∙ line_is_simple)).1 ∙ ap (λ b. subcommand_of b words) line

-- if a parse fails, memory ran out or the error is one of the kinds of the words' faults
pub fails_by_kind : (a : App) (words : List Text) (e : Error) (f : WordsFault)
    → a ≡ command_line
    → (is_simple_and_free a ≡ true → HasKind (fault_of a words) e)
    → IsFaultOf e f → IsOfKinds (faults words) f
fails_by_kind a words e f line h is = grind (arith, common_steps, line_is_free)

-- and it reports no conflict
pub tells_nothing : (among : Option Conflict) (e : Error) (f : WordsFault) → IsFaultOf e f → TellsConflict among f
tells_nothing among e f is = grind (arith, common_steps)

-- the task that is asked for, given the faults and the conflict of the words
abbrev task_by : List Text → Kinds → Option Conflict → Option Task
task_by words kinds conflict =
    unless kinds (freely conflict (option_and_then task_named (subcommand_of command_line words)))

-- rejected words ask for nothing
pub refused_ask_nothing : (words : List Text) (f : WordsFault)
    → IsOfKinds (faults words) f → TellsConflict (conflict_among words) f
    → IsUsage f → asked words ≡ None
refused_ask_nothing words Memory h told usage = absurd usage
refused_ask_nothing words (Clash conflict) h told usage = ap₂ (task_by words) h told
refused_ask_nothing words (Usage error) h told usage = go (faults words) h
  where
    go : (kinds : Kinds) → IsAmong (kind_of error) kinds → task_by words kinds (conflict_among words) ≡ None
    go [] k = absurd k
    go (x ∷ xs) k = refl

-- rejected words show help if and only if they ask for it
pub shows_help : (words : List Text) (f : WordsFault) → IsOfKinds (faults words) f → IsUsage f
    → ShowsHelp f ↔ AskForHelp words
shows_help words f h usage = grind (arith, common_steps, help_alone)

-- words without faults or conflicts ask for what they name
pub taken_ask : (words : List Text) → faults words ≡ [] → conflict_among words ≡ None
    → asked words ≡ option_and_then task_named (subcommand_of command_line words)
taken_ask words none free = ap₂ (task_by words) none free

-- a task without limits
unlimited : {P Q : Type 0} (t : Task) → IsWithin t → P → Q → IsSound (Some t)
unlimited t within passes free = (t, refl, within)

each_asks_within : (words : List Text) → Each (AsksWithin words) (built command_line).subs
unfolding command_line
each_asks_within words =
    unlimited _ tt & unlimited _ tt & identity_within words & drops_within words & unlimited _ tt & unlimited _ tt
    & multiple_within words & unlimited _ tt & lab_within words & tt

wants_command : (built command_line).top.subcommand_required ≡ true
unfolding command_line
wants_command = refl

-- words without faults or conflicts ask for a task within the limits
pub taken_are_sound : (words : List Text) → faults words ≡ [] → conflict_among words ≡ None
    → IsSound (option_and_then task_named (subcommand_of command_line words))
taken_are_sound words none free =
    go _ free (enters (built command_line) (argument_words command_line words) wants_command none)
  where
    go : (o : Option (Text × List Text))
        → option_and_then conflict_of (entered (built command_line) o) ≡ None
        → Enters (built command_line) o
        → IsSound (option_and_then task_named (entered (built command_line) o))
    go None apart h = absurd h
    go (Some p) apart (s, found, passes) =
        let together = sym (ap (λ f. option_and_then conflict_of (option_map (λ x. rows_at x p.1) f)) found) ∙ apart in
        let each = each_found (λ x. answers_to p.0 (label_of x))
        (AsksWithin p.1) (built command_line).subs (each_asks_within p.1) in
        let sound = subst (λ o. IfSome o (AsksWithin p.1)) found each passes together in
        (sound.0, ap (λ f. option_and_then task_named (option_map (λ x. rows_at x p.1) f)) found ∙ sound.1, sound.2)
