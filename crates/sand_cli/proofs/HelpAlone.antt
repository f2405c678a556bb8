-- If clap's model responds with help, it reports no other kind of error.
use Rattle.sand_cli.proofs.Common.{common_steps, arith, ◌≡◌, ℕ, Bool, true, false, cond, zero, suc, List, [], ◌∷◌, Option, Some, None, refl, length, IfSome, find, option_map_or, IsAmong, Kinds, check_kinds, or_else, range_kinds, request_kinds, value_kinds, values_kinds, Held, Names, Row, Rule, Step, Walk, answers_to, arg_by_id, arg_by_long, attached_value, nothing_held, walked, with_default, App, Shape, argument_words, built, label_of, names_of, action_fault, count_fault, entered_fault, flag_word_fault, level_fault, long_fault, option_fault, other_fault, react_fault, set_fault, settle_fault, short_fault, step_fault, turn_fault, use_fault, ValueParser, AskForHelp, faults}
use Rattle.clap.specs.Walk.{Text}
use Rattle.clap.specs.Faults.{defaults_fault, flags_fault, walk_fault}
use Rattle.clap.specs.declared.builder.action.ArgAction.{ArgAction}
use Rattle.clap.specs.declared.error.kind.ErrorKind.{ErrorKind}
use Rattle.clap.specs.declared.error.kind.ErrorKind.TheVariants as kind
use Rattle.sand_cli.specs.Line.{command_line}
use Rattle.sand_cli.proofs.Each.{Each, each_found}

-- help is the only kind, if it is one
record IsClear (kinds : Kinds) : Type 0 where
  alone : IsAmong kind.DisplayHelp kinds → kinds ≡ kind.DisplayHelp ∷ []

none : IsClear []
none = record { alone = λ h. absurd h }

one : (k : ErrorKind) → IsClear (k ∷ [])
one k = grind (arith, common_steps)

if_clear : (b : Bool) (x y : Kinds) → IsClear x → IsClear y → IsClear (cond b x y)
if_clear b x y h k = grind (arith, common_steps)

or_else_clear : (x y : Kinds) → IsClear x → IsClear y → IsClear (or_else x y)
or_else_clear x y h k = grind (arith, common_steps)

of_clear : {A : Type 0} (f : A → Kinds) (o : Option A) → ((x : A) → IsClear (f x)) → IsClear (option_map_or f o [])
of_clear f o h = grind (arith, common_steps, none)

-- ---- one use of an argument

value_clear : (ignore_case : Bool) (p : ValueParser) (text : Text) → IsClear (value_kinds ignore_case p text)
value_clear ignore_case p text = if_clear _ [] _ none (one _)

values_clear : (ignore_case : Bool) (p : ValueParser) (values : List Text) → IsClear (values_kinds ignore_case p values)
values_clear ignore_case p [] = none
values_clear ignore_case p (v ∷ vs) =
    or_else_clear (value_kinds ignore_case p v) _ (value_clear ignore_case p v) (values_clear ignore_case p vs)

range_clear : (least most n : ℕ) → IsClear (range_kinds least most n)
range_clear least most n = search (if_clear, none, one)

request_clear : (x : ArgAction) → IsClear (request_kinds x)
request_clear action = grind (arith, common_steps, one, none)

count_clear : (a : Rule) (values : List Text) (rows : List Row) → IsClear (count_fault a values rows)
count_clear a values rows = grind (arith, common_steps, value_clear, values_clear)

set_clear : (again : Bool) (a : Rule) (values : List Text) (rows : List Row) → IsClear (set_fault again a values rows)
set_clear again a values rows = grind (arith, common_steps, or_else_clear, if_clear, one, none, values_clear)

action_clear : (x : ArgAction) (again : Bool) (a : Rule) (values : List Text) (rows : List Row)
    → IsClear (action_fault x again a values rows)
action_clear x again a values rows = grind (arith, common_steps, set_clear, values_clear, count_clear, one)

use_clear : (again : Bool) (a : Rule) (values : List Text) (rows : List Row) → IsClear (use_fault again a values rows)
use_clear again a values rows = search (or_else_clear, range_clear, action_clear)

-- ---- the walk

module _ (c : List Rule) (again : Bool) where
  settle_clear : (h : Held) → IsClear (settle_fault c again h)
  settle_clear h = of_clear _ h.pending (λ p. of_clear _ (arg_by_id c p.0) (λ a. use_clear again a p.1 h.rows))

  react_clear : (a : Rule) (values : List Text) (h : Held) → IsClear (react_fault c again a values h)
  react_clear a values h = or_else_clear (settle_fault c again h) _ (settle_clear h) (use_clear again a values _)

  option_clear : (a : Rule) (v : Option Text) (h : Held) → IsClear (option_fault c again a v h)
  option_clear a (Some v) h = react_clear a (v ∷ []) h
  option_clear a None h = settle_clear h

  long_clear : (o : Option Rule) (v : Option Text) (h : Held) → IsClear (long_fault c again o v h)
  long_clear None v h = one _
  long_clear (Some a) v h = if_clear _ _ _ (option_clear a v h) (if_clear _ _ _ (one _) (react_clear a [] h))

  short_clear : (o : Option Rule) (rest : Text) (h : Held) (later : Held → Kinds) → ((g : Held) → IsClear (later g))
      → IsClear (short_fault c again o rest h later)
  short_clear None rest h later clear = one _
  short_clear (Some a) rest h later clear =
      if_clear _ _ _ (option_clear a (attached_value rest) h)
      (or_else_clear (react_fault c again a [] h) _ (react_clear a [] h) (clear _))

  flags_clear : (k : ℕ) (flags : Text) (skip : ℕ) (h : Held) → IsClear (flags_fault c again k flags skip h)
  unfolding flags_fault
  flags_clear zero flags skip h = none
  flags_clear (suc k) flags skip h = grind (arith, common_steps, none, short_clear, flags_clear k)

  flag_word_clear : (o : Option (Text × Option Text)) (word : Text) (h : Held)
      → IsClear (flag_word_fault c again o word h)
  flag_word_clear (Some p) word h = long_clear (arg_by_long c p.0) p.1 h
  flag_word_clear None word h = of_clear _ _ (λ flags. flags_clear (length flags) flags h.skip _)

  defaults_clear : (rows : List Row) (rules : List Rule) → IsClear (defaults_fault rows rules)
  unfolding defaults_fault
  defaults_clear rows [] = none
  defaults_clear rows (a ∷ rest) =
      let others = defaults_clear (with_default rows a) rest in
      grind (arith, common_steps, or_else_clear, if_clear, none, request_clear, values_clear)

check_clear : (help wants missing : Bool) → IsClear (check_kinds help wants missing)
check_clear help wants missing = search (if_clear, none, one)

-- ---- one level, of a command that adds no `help`

module _ (s : Shape) (helpless : s.disable_help_subcommand ≡ true) where
  other_clear : (o : Option Text) (word : Text) (h : Held) → IsClear (other_fault s o word h)
  other_clear o word h = grind (arith, common_steps, none, if_clear, flag_word_clear)

  stray_clear : (is_leaf : Bool)
      → IsClear (cond is_leaf (kind.UnknownArgument ∷ []) (kind.UnknownArgument ∷ kind.InvalidSubcommand ∷ []))
  stray_clear is_leaf = grind (arith, common_steps, one)

  step_clear : (position : ℕ) (h : Held) (step : Step) → IsClear (step_fault s position h step)
  step_clear position h step = grind (arith, common_steps, none, stray_clear, if_clear, settle_clear)

  turn_clear : (names : Names) (w : Walk) (word : Text) → IsClear (turn_fault s names w word)
  turn_clear names w word = grind (arith, common_steps, if_clear, none, or_else_clear, other_clear, step_clear)

  walk_clear : (names : Names) (w : Walk) (words : List Text) → IsClear (walk_fault s names w words)
  unfolding walk_fault
  walk_clear names w [] = none
  walk_clear names w (word ∷ rest) =
      grind (arith, common_steps, or_else_clear, turn_clear, walk_clear names (walked s.rules names w word) rest)

  level_clear : (names : Names) (h : Held) (words : List Text) (has : Bool) (below : Kinds) → IsClear below
      → IsClear (level_fault s names h words has below)
  level_clear names h words has below clear =
      grind (arith, common_steps, or_else_clear, walk_clear, settle_clear, defaults_clear, check_clear)

-- ---- the command line

entered_clear : (a : App) → Each (λ s. s.disable_help_subcommand ≡ true) a.subs → (stop : Option (Text × List Text))
    → IsClear (entered_fault a stop)
entered_clear a helpless stop =
    of_clear _ stop (λ p. go p (find (λ s. answers_to p.0 (label_of s)) a.subs) (each_found _ _ a.subs helpless))
  where
    go : (p : Text × List Text) (o : Option Shape) → IfSome o (λ s. s.disable_help_subcommand ≡ true)
        → IsClear (option_map_or (λ s. level_fault s [] nothing_held p.1 false []) o [])
    go p None h = none
    go p (Some s) h = level_clear s h [] nothing_held p.1 false [] none

line_is_helpless : (built command_line).top.disable_help_subcommand ≡ true
unfolding command_line
line_is_helpless = refl

commands_are_helpless : Each (λ s. s.disable_help_subcommand ≡ true) (built command_line).subs
unfolding command_line
commands_are_helpless = (refl, (refl, (refl, (refl, (refl, (refl, (refl, (refl, (refl, tt)))))))))

-- if help is a possible response, it is the only one
pub help_alone : (words : List Text) → IsAmong kind.DisplayHelp (faults words) → AskForHelp words
help_alone words = (level_clear (built command_line).top line_is_helpless
    (names_of (built command_line)) nothing_held (argument_words command_line words) _ _
    (entered_clear (built command_line) commands_are_helpless _)).alone
