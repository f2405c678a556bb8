-- After a level of a parse passes, each argument that takes a value and has a row holds a value that passed its parser.
use Rattle.sand_cli.proofs.Common.{common_steps, arith, ◌≡◌, ◌∙◌, ℕ, Bool, true, false, cond, ◌||◌, zero, suc, List, [], ◌∷◌, ◌++◌, Option, Some, None, is_some, refl, sym, ap, fold, true≢false, IfSome, find, option_and_then, option_map, slice_get, option_map_or, bytes_eq, bytes_eq-Decides, Kinds, or_else, value_kinds, accepts, ValueParser, Held, Names, Outcome, Row, Rule, Step, Waiting, Walk, action_of, after_flag, after_step, arg_by_id, at_row, attached_value, counted, flag_met, has_row, long_met, long_or_other, option_met, plain_word, one_of, reacted, reading_by, row_text, rows_after, settled, settled_rows, short_met, takes_values, used, used_as, used_by_id, with_count, with_default, with_values, without, word_met, Shape, check_fault, default_fault, flag_word_fault, long_fault, option_fault, react_fault, settle_fault, short_fault, step_fault, turn_fault, use_fault, values_fault, word_fault}
use Rattle.std.proofs.Math.Dec.{eqb-suc-zero}
use Rattle.clap.specs.Takes.{is_given, value_passes}
use Rattle.clap.specs.Values.{read_as}
use Rattle.clap.specs.declared.error.kind.ErrorKind.TheVariants as kind
use Rattle.clap.specs.declared.builder.action.ArgAction.{ArgAction}
use Rattle.clap.specs.declared.builder.action.ArgAction.TheVariants.{Set}
use Rattle.clap.specs.declared.builder.value_parser.Reading.{Reading}
use Rattle.clap.specs.declared.parser.matches.ValueSource.{ValueSource}
use Rattle.clap.specs.Walk.{Text, bundle_met, walked}
use Rattle.clap.specs.Faults.{defaults_fault, flags_fault, walk_fault}
use Rattle.sand_cli.proofs.Alone.{IsAlone}
use Rattle.sand_cli.proofs.Each.{Each, each_append, each_found}
use Rattle.sand_cli.proofs.Entering.{Accepts, first_passes, second_passes, steps_pass}

-- ---- rows

rows_changed : (P : Row → Type 0) (id : Text) (change : Row → List Row) (missing rows : List Row) → Each P rows
    → ((r : Row) → bytes_eq r.id id ≡ true → P r → Each P (change r)) → Each P missing
    → Each P (at_row id change missing rows)
rows_changed P id change missing [] all changed absent = absent
rows_changed P id change missing (r ∷ rs) all changed absent =
    grind (arith, common_steps, each_append, rows_changed P id change missing rs all.1 changed absent)

-- ---- one use

-- the first value passes the argument's parser
abbrev pub FirstPasses : Rule → List Text → Type 0
FirstPasses a [] = ⊥
FirstPasses a (v ∷ vs) = value_passes a v ≡ true

first_kept : (a : Rule) (xs ys : List Text) → FirstPasses a xs → FirstPasses a (xs ++ ys)
first_kept a xs ys h = grind (arith, common_steps)

-- the row, if it is the argument's, has a value that passed and is read as the argument's parser says
abbrev pub Holds : Rule → Row → Type 0
Holds a r = bytes_eq r.id a.id ≡ true → FirstPasses a r.values × (r.reading ≡ reading_by a)

-- the argument takes one value, and no other argument has its id
pub record TakesOne (a : Rule) (c : List Rule) : Type 0 where
  pub set : action_of a ≡ Set
  pub one : a.range ≡ Some (record { start_inclusive = 1; end_inclusive = 1 })
  pub none_else : IsAlone c a

other_id : (a : Rule) (id own : Text) → bytes_eq id a.id ≡ false → bytes_eq own id ≡ true → bytes_eq own a.id ≡ true → ⊥
other_id a id own other e is = true≢false (sym is ∙ (ap (λ t. bytes_eq t a.id) ((bytes_eq-Decides own id).0 e) ∙ other))

removed : (a : Rule) (id : Text) (rows : List Row) → Each (Holds a) rows → Each (Holds a) (without id rows)
removed a id rows all = rows_changed (Holds a) id (λ _. []) [] rows all (λ r e h. tt) tt

other_values : (a : Rule) (id : Text) (how : Reading) (s : ValueSource) (values : List Text) (rows : List Row)
    → bytes_eq id a.id ≡ false
    → Each (Holds a) rows → Each (Holds a) (with_values id how s values rows)
other_values a id how s values rows other all = grind (arith, common_steps, rows_changed, other_id)

other_count : (a : Rule) (id : Text) (how : Reading) (s : ValueSource) (n : ℕ) (rows : List Row)
    → bytes_eq id a.id ≡ false
    → Each (Holds a) rows → Each (Holds a) (with_count id how s n rows)
other_count a id how s n rows other all = grind (arith, common_steps, rows_changed, other_id)

other_counted : (a : Rule) (id : Text) (how : Reading) (values : List Text) (rows : List Row) → bytes_eq id a.id ≡ false
    → Each (Holds a) rows → Each (Holds a) (counted id how values rows)
other_counted a id how values rows other all = grind (arith, common_steps, other_count, removed, other_values)

other_used : (a : Rule) (x : ArgAction) (id : Text) (how : Reading) (values : List Text) (rows : List Row)
    → bytes_eq id a.id ≡ false
    → Each (Holds a) rows → Each (Holds a) (used_as x id how values rows)
other_used a x id how values rows other all = grind (arith, common_steps, other_values, removed, other_counted)

value_passed : (ignore_case : Bool) (p : ValueParser) (text : Text) → value_kinds ignore_case p text ≡ []
    → accepts ignore_case p text ≡ true
value_passed ignore_case p text e = grind (arith, common_steps)

first_value_passed : (a : Rule) (v : Text) (vs : List Text) → values_fault a (v ∷ vs) ≡ [] → value_passes a v ≡ true
first_value_passed a v vs e = grind (arith, common_steps, value_passed, first_passes)

own_values : (a : Rule) (s : ValueSource) (v : Text) (vs : List Text) (rows : List Row)
    → value_passes a v ≡ true → Each (Holds a) rows
    → Each (Holds a) (with_values a.id (reading_by a) s (v ∷ vs) rows)
own_values a s v vs rows passes all = grind (arith, common_steps, rows_changed, first_kept)

own_used : (a : Rule) (c : List Rule) (again : Bool) (values : List Text) (rows : List Row)
    → TakesOne a c → use_fault again a values rows ≡ []
    → Each (Holds a) rows → Each (Holds a) (used a values rows)
own_used a c again values rows takes e all =
    grind (arith, common_steps, steps_pass, first_value_passed, own_values, removed)

-- after a use that passes, each row of the argument has a value that passed
use_holds : (a : Rule) (c : List Rule) (again : Bool) (b : Rule) (values : List Text) (rows : List Row)
    → TakesOne a c → (bytes_eq b.id a.id ≡ true → b ≡ a)
    → use_fault again b values rows ≡ [] → Each (Holds a) rows → Each (Holds a) (used b values rows)
use_holds a c again b values rows takes same e all = grind (arith, common_steps, own_used, other_used)

-- ---- the walk

-- each row held for the argument has a value that passed
abbrev pub IsFine : Rule → Held → Type 0
IsFine a h = Each (Holds a) h.rows

module _ (a : Rule) (c : List Rule) (again : Bool) (takes : TakesOne a c) where
  abbrev IsApart : Rule → Type 0
  IsApart b = bytes_eq b.id a.id ≡ true → b ≡ a

  found_apart : (test : Rule → Bool) → IfSome (find test c) IsApart
  found_apart test = each_found test IsApart c takes.none_else

  settled_fine : (h : Held) → settle_fault c again h ≡ [] → IsFine a h → IsFine a (settled c h)
  settled_fine h e fine = go h.pending e
    where
      by_id : (o : Option Rule) (values : List Text) → IfSome o IsApart
          → option_map_or (λ b. use_fault again b values h.rows) o [] ≡ []
          → Each (Holds a) (used_by_id o values h.rows)
      by_id None values apart f = fine
      by_id (Some b) values apart f = use_holds a c again b values h.rows takes apart f fine

      go : (p : Option (Text × List Text))
          → option_map_or (λ q. option_map_or (λ b. use_fault again b q.1 h.rows) (arg_by_id c q.0) []) p [] ≡ []
          → Each (Holds a) (settled_rows c p h.rows)
      go None f = fine
      go (Some q) f = by_id (arg_by_id c q.0) q.1 (found_apart (λ b. bytes_eq b.id q.0)) f

  reacted_fine : (b : Rule) (values : List Text) (h : Held)
      → IsApart b → react_fault c again b values h ≡ [] → IsFine a h
      → IsFine a (reacted c b values h)
  reacted_fine b values h apart e fine =
      grind (arith, common_steps, use_holds, steps_pass, settled_fine)

  option_fine : (b : Rule) (v : Option Text) (h : Held) → IsApart b → option_fault c again b v h ≡ [] → IsFine a h
      → IsFine a (option_met c b v h).0
  option_fine b (Some v) h apart e fine = reacted_fine b (v ∷ []) h apart e fine
  option_fine b None h apart e fine = settled_fine h e fine

  long_fine : (o : Option Rule) (v : Option Text) (h : Held) → IfSome o IsApart
      → long_fault c again o v h ≡ [] → IsFine a h → IsFine a (long_met c o v h).0
  long_fine None v h apart e fine = fine
  long_fine (Some b) v h apart e fine = go (takes_values b) v e
    where
      go : (takes : Bool) (w : Option Text)
          → cond takes (option_fault c again b w h)
          (cond (is_some w) (kind.TooManyValues ∷ []) (react_fault c again b [] h)) ≡ []
          → IsFine a (cond takes (option_met c b w h) (flag_met c b w h)).0
      go true w f = option_fine b w h apart f fine
      go false (Some w) f = fine
      go false None f = reacted_fine b [] h apart f fine

  short_fine : (o : Option Rule) (rest : Text) (h : Held) (rest_met : Held → Held × Outcome) (fault : Held → Kinds)
      → IfSome o IsApart
      → ((g : Held) → fault g ≡ [] → IsFine a g → IsFine a (rest_met g).0)
      → short_fault c again o rest h fault ≡ [] → IsFine a h
      → IsFine a (short_met c o rest h rest_met).0
  short_fine None rest h rest_met fault apart later e fine = fine
  short_fine (Some b) rest h rest_met fault apart later e fine = go (takes_values b) e
    where
      go : (takes : Bool)
          → cond takes (option_fault c again b (attached_value rest) h)
          (or_else (react_fault c again b [] h) (fault (reacted c b [] h))) ≡ []
          → IsFine a (cond takes (option_met c b (attached_value rest) h) (rest_met (reacted c b [] h))).0
      go true f = option_fine b (attached_value rest) h apart f fine
      go false f = later (reacted c b [] h) (second_passes (react_fault c again b [] h) _ f)
          (reacted_fine b [] h apart (first_passes (react_fault c again b [] h) _ f) fine)

  bundle_fine : (k : ℕ) (flags : Text) (skip : ℕ) (so_far : Outcome) (h : Held)
      → flags_fault c again k flags skip h ≡ [] → IsFine a h
      → IsFine a (bundle_met c k flags skip so_far h).0
  unfolding flags_fault bundle_met
  bundle_fine zero flags skip so_far h e fine = fine
  bundle_fine (suc k) flags skip so_far h e fine = grind (arith, common_steps, short_fine, found_apart, bundle_fine k)

  plain_fine : (waiting : Waiting) (word : Text) (h : Held) → IsFine a h → IsFine a (plain_word c waiting word h).0
  plain_fine waiting word h fine = grind (arith, common_steps)

  after_fine : (waiting : Waiting) (word : Text) (h : Held) (o : Outcome) → IsFine a h
      → IsFine a (after_flag c waiting word h o).0
  after_fine waiting word h o fine = grind (arith, common_steps, plain_fine)

  flag_fine : (waiting : Waiting) (word : Text) (o : Option (Text × Option Text)) (h : Held)
      → flag_word_fault c again o word h ≡ [] → IsFine a h
      → IsFine a (long_or_other c waiting word o h).0
  flag_fine waiting word o h e fine =
      grind (arith, common_steps, after_fine, long_fine, found_apart, plain_fine, bundle_fine)

  default_fine : (b : Rule) (rows : List Row) → IsApart b → default_fault rows b ≡ [] → Each (Holds a) rows
      → Each (Holds a) (with_default rows b)
  default_fine b rows apart e fine =
      grind (arith, common_steps, first_value_passed, second_passes, own_values, other_values, eqb-suc-zero)

  defaults_fine : (bs : List Rule) (rows : List Row) → Each IsApart bs
      → defaults_fault rows bs ≡ [] → Each (Holds a) rows
      → Each (Holds a) (fold with_default rows bs)
  unfolding defaults_fault
  defaults_fine [] rows apart e fine = fine
  defaults_fine (b ∷ bs) rows apart e fine =
      grind (arith, common_steps, steps_pass, default_fine, defaults_fine bs (with_default rows b) apart.1)

-- ---- one level

module _ (a : Rule) (s : Shape) (takes : TakesOne a s.rules) where
  met_fine : (names : Names) (is_trailing : Bool) (waiting : Waiting) (position : ℕ) (word : Text) (h : Held)
      → word_fault s names is_trailing waiting word h ≡ []
      → IsFine a h → IsFine a (word_met s.rules names is_trailing waiting position word h).0
  met_fine names is_trailing waiting position word h e fine = grind (arith, common_steps, flag_fine)

  step_fine : (word : Text) (w : Walk) (h : Held) (step : Step) → step_fault s w.position h step ≡ [] → IsFine a h
      → IsFine a (after_step s.rules word w h step).held
  step_fine word w h step e fine = grind (arith, common_steps, settled_fine)

  turn_fine : (names : Names) (w : Walk) (word : Text) → turn_fault s names w word ≡ [] → IsFine a w.held
      → IsFine a (walked s.rules names w word).held
  unfolding walked
  turn_fine names w word e fine = grind (arith, common_steps, step_fine, steps_pass, met_fine)

  walk_fine : (names : Names) (w : Walk) (words : List Text) → walk_fault s names w words ≡ [] → IsFine a w.held
      → IsFine a (fold (walked s.rules names) w words).held
  unfolding walk_fault
  walk_fine names w [] e fine = fine
  walk_fine names w (word ∷ rest) e fine =
      grind (arith, common_steps, steps_pass, turn_fine, walk_fine names (walked s.rules names w word) rest)

  -- after a level that passes, each row of the argument has a value that passed
  pub level_fine : (words : List Text) → Accepts s words → Each (Holds a) (rows_after s.rules [] words)
  level_fine words e = grind (arith, common_steps, steps_pass, defaults_fine, settled_fine, walk_fine)

-- if a level passes, so do its last checks
pub level_checks : (s : Shape) (words : List Text) → Accepts s words
    → check_fault s (rows_after s.rules [] words) false ≡ []
level_checks s words e = grind (arith, common_steps, second_passes)

-- an argument with a row has a first value, which passed
pub row_passes : (a : Rule) (rows : List Row) → Each (Holds a) rows → has_row a.id rows ≡ true
    → (v : Text) × (one_of a.id rows ≡ Some (read_as (reading_by a) v)) × (value_passes a v ≡ true)
row_passes a [] holds has = absurd (true≢false (sym has))
row_passes a (r ∷ rs) holds has = go (row_passes a rs holds.1) (bytes_eq r.id a.id) refl has
  where
    first : (values : List Text) → r.values ≡ values → FirstPasses a values → r.reading ≡ reading_by a
        → (v : Text) × (row_text r ≡ Some (read_as (reading_by a) v)) × (value_passes a v ≡ true)
    first [] is passes how = absurd passes
    first (v ∷ vs) is passes how =
        (v, ap (λ xs. option_map (read_as r.reading) (slice_get xs 0)) is ∙ ap (λ x. Some (read_as x v)) how, passes)

    go : (has_row a.id rs ≡ true
        → (v : Text) × (one_of a.id rs ≡ Some (read_as (reading_by a) v)) × (value_passes a v ≡ true))
        → (own : Bool)
        → bytes_eq r.id a.id ≡ own → (own || has_row a.id rs) ≡ true
        → (v : Text)
        × (option_and_then row_text (cond own (Some r) (find (λ x. bytes_eq x.id a.id) rs))
        ≡ Some (read_as (reading_by a) v))
        × (value_passes a v ≡ true)
    go later true is f =
        let held = holds.0 is in
        first r.values refl held.0 held.1
    go later false is f = later f

-- an argument that was given has a row
pub given_has_row : (id : Text) (rows : List Row) → is_given id rows ≡ true → has_row id rows ≡ true
given_has_row id [] given = given
given_has_row id (r ∷ rs) given = grind (arith, common_steps, given_has_row id rs)
