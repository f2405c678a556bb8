-- If a command accepts its words and no options conflict, it asks for a task within the limits.
use Rattle.sand_cli.proofs.Common.{common_steps, ◌≡◌, ◌≤◌, ℕ, Bool, true, false, cond, ◌&&◌, List, [], ◌∷◌, Option, Some, None, refl, ap, ap₂, arith, rules, codes, IfSome, option_map, unwrap_or, Text, Shape, built_leaf, rows_at, has_row, nothing_held, one_of, rows_after, settled, walk, GoTogether, IsDraw, IsWithin, conflict_of, draw_by, form_in, task_named, with_settings, with_sides, flag_in, setting_in, PileAndJournal, PileAndGraymap, PileAndTable, Task, Lab, Multiple}
use Rattle.clap.specs.Words.{Row}
use Rattle.clap.specs.Takes.{is_given}
use Rattle.sand_cli.specs.Line.{drops_line, identity_line, lab_line, multiple_line}
use Rattle.sand_cli.specs.declared.task.Form.TheVariants.{Graymap, Pile}
use Rattle.sand_cli.specs.declared.task.Form.TheVariants as forms
use Rattle.sand_cli.proofs.Each.{Each}
use Rattle.sand_cli.proofs.Entering.{Accepts}
use Rattle.sand_cli.proofs.Passing.{given_has_row, level_checks}
use Rattle.sand_cli.proofs.Ranges.{IsNumber, TakesNumber, all_given, each_number}
use Rattle.sand_cli.proofs.Usual.{each_has_row}

-- there is a task, and it is within the limits
abbrev pub IsSound : Option Task → Type 0
IsSound o = (t : Task) × (o ≡ Some t) × IsWithin t

-- if the command accepts the words, and no options conflict, its task is within the limits
abbrev pub AsksWithin : List Text → Shape → Type 0
AsksWithin words s = Accepts s words → conflict_of (rows_at s words) ≡ None → IsSound (task_named (rows_at s words))

-- ---- `identity`

abbrev pub identity_built : Shape
identity_built = built_leaf identity_line.top

identity_takes : Each (TakesNumber 18446744073709551615) identity_built.rules
identity_takes = search rules

pub identity_within : (words : List Text) → AsksWithin words identity_built
identity_within words passes free =
    let rows = rows_after identity_built.rules [] words in
    let given = all_given (is_given (codes "width") rows ∷ is_given (codes "height") rows ∷ [])
    (level_checks identity_built words passes) in
    let number = each_number 18446744073709551615 identity_built words refl identity_takes passes in
    let width = number.0 (given_has_row (codes "width") rows given.0) in
    let height = number.1.0 (given_has_row (codes "height") rows given.1.0) in
    (_, ap₂ (with_sides rows) width.read height.read, (width.low, width.high, height.low, height.high))

-- ---- `multiple`

abbrev pub multiple_built : Shape
multiple_built = built_leaf multiple_line.top

multiple_takes : Each (TakesNumber 18446744073709551615) multiple_built.rules
multiple_takes = search (rules, arith)

pub multiple_within : (words : List Text) → AsksWithin words multiple_built
multiple_within words passes free =
    let rows = rows_after multiple_built.rules [] words in
    let given = all_given (is_given (codes "times") rows ∷ []) (level_checks multiple_built words passes) in
    let number = each_number 18446744073709551615 multiple_built words refl multiple_takes passes in
    let times = number.0 (given_has_row (codes "times") rows given.0) in
    (_, ap (option_map (λ n. Multiple n (flag_in (codes "pgm") rows))) times.read, times.high)

-- ---- `drops`

abbrev pub drops_built : Shape
drops_built = built_leaf drops_line.top

drops_takes : Each (TakesNumber 4294967295) drops_built.rules
drops_takes = search (rules, arith)

-- an option without a row has no text
no_row : (id : Text) (rows : List Row) → has_row id rows ≡ false → one_of id rows ≡ None
no_row id [] e = refl
no_row id (r ∷ rs) e = grind (arith, common_steps, no_row id rs)

-- the number is in range, if there is one
abbrev IsWord : Option ℕ → Type 0
IsWord given = IfSome given (λ n. n ≤ 4294967295)

-- a number that is given is in range
given_is_word : (name : Text) (rows : List Row)
    → (has_row name rows ≡ true → IsNumber 4294967295 0 4294967295 (one_of name rows)) → IsWord (setting_in name rows)
given_is_word name rows read = grind (arith, common_steps, no_row)

-- so is 0, the default
usual_is_word : (given : Option ℕ) → IsWord given → unwrap_or given 0 ≤ 4294967295
usual_is_word given h = grind (arith, common_steps)

draw_is_within : (count seed stream from : Option ℕ) → IsWord count → IsWord seed → IsWord stream → IsWord from
    → IfSome (draw_by count seed stream from) IsDraw
draw_is_within count seed stream from c s k f = grind (arith, common_steps, usual_is_word)

pub drops_within : (words : List Text) → AsksWithin words drops_built
drops_within words passes free =
    let rows = rows_after drops_built.rules [] words in
    let number = each_number 4294967295 drops_built words refl drops_takes passes in
    let count = given_is_word (codes "count") rows number.0 in
    let seed = given_is_word (codes "seed") rows number.1.0 in
    let stream = given_is_word (codes "stream") rows number.1.1.0 in
    let from = given_is_word (codes "from") rows number.1.1.1.0 in
    (_, refl, draw_is_within _ _ _ _ count seed stream from)

-- ---- `lab`

abbrev pub lab_built : Shape
lab_built = built_leaf lab_line.top

lab_takes : Each (TakesNumber 4294967295) lab_built.rules
lab_takes = search (rules, arith)

-- `--journal` and `--pile` exclude each other
go_together : (pile pgm journal table : Bool)
    → cond (pile && pgm) (Some PileAndGraymap)
    (cond (pile && journal) (Some PileAndJournal) (cond (pile && table) (Some PileAndTable) None)) ≡ None
    → GoTogether journal (cond pile Pile (cond pgm Graymap forms.Text))
go_together pile pgm journal table free = grind (arith, common_steps)

pub lab_within : (words : List Text) → AsksWithin words lab_built
lab_within words passes free =
    let rows = rows_after lab_built.rules [] words in
    let has =
    each_has_row lab_built.rules (settled lab_built.rules (walk lab_built.rules [] nothing_held words).held).rows in
    let number = each_number 4294967295 lab_built words refl lab_takes passes in
    let seed = number.0 (has.0 refl) in
    let droppers = number.1.0 (has.1.0 refl) in
    let drops = number.1.1.0 (has.1.1.0 refl) in
    let epochs = number.1.1.1.0 (has.1.1.1.0 refl) in
    let workers = number.1.1.1.1.0 (has.1.1.1.1.0 refl) in
    let sweeps = number.1.1.1.1.1.0 (has.1.1.1.1.1.0 refl) in
    let observers = number.1.1.1.1.1.1.0 (has.1.1.1.1.1.1.0 refl) in (
      _,
      (λ i. option_map (λ r. Lab r (flag_in (codes "journal") rows) (form_in rows))
          (with_settings (seed.read i) (droppers.read i) (drops.read i)
          (epochs.read i) (workers.read i) (sweeps.read i) (observers.read i))),
      (
        record {
          seed = seed.high;
          plan = record {
            some_droppers = droppers.low;
            droppers = droppers.high;
            drops = drops.high;
            some_epochs = epochs.low;
            epochs = epochs.high;
            some_workers = workers.low;
            workers = workers.high;
            sweeps = sweeps.high;
            observers = observers.high;
          };
        },
        go_together (flag_in (codes "pile") rows) (flag_in (codes "pgm") rows)
            (flag_in (codes "journal") rows) (flag_in (codes "table") rows) free,
      ),
    )
