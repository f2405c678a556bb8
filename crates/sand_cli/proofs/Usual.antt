-- Each argument with a default has a row at the end of a level.
use Rattle.sand_cli.proofs.Common.{common_steps, arith, ◌≡◌, true, false, List, [], ◌∷◌, fold, refl, sym, true≢false, bytes_eq, bytes_eq-Decides, Row, Rule, at_row, has_row, is_empty, more_values, with_default}
use Rattle.clap.specs.Walk.{Text}
use Rattle.clap.specs.declared.parser.matches.ValueSource.{ValueSource}
use Rattle.sand_cli.proofs.Each.{Each}

same_id : (id : Text) → bytes_eq id id ≡ true
same_id id = (bytes_eq-Decides id id).1 refl

kept_at : (id own : Text) (s : ValueSource) (values : List Text) (missing rows : List Row) → has_row id rows ≡ true
    → has_row id (at_row own (more_values s values) missing rows) ≡ true
kept_at id own s values missing [] e = absurd (true≢false (sym e))
kept_at id own s values missing (r ∷ rs) e = grind (arith, common_steps, kept_at id own s values missing rs)

own_at : (id : Text) (s : ValueSource) (values : List Text) (missing rows : List Row) → has_row id missing ≡ true
    → has_row id (at_row id (more_values s values) missing rows) ≡ true
own_at id s values missing [] e = e
own_at id s values missing (r ∷ rs) e = grind (arith, common_steps, own_at id s values missing rs e)

-- adding defaults removes no row
kept_by : (id : Text) (b : Rule) (rows : List Row) → has_row id rows ≡ true → has_row id (with_default rows b) ≡ true
kept_by id b rows e = grind (arith, common_steps, kept_at)

kept : (id : Text) (c : List Rule) (rows : List Row) → has_row id rows ≡ true
    → has_row id (fold with_default rows c) ≡ true
kept id [] rows e = e
kept id (b ∷ c) rows e = kept id c (with_default rows b) (kept_by id b rows e)

own_default : (a : Rule) (rows : List Row) → is_empty a.defaults ≡ false → has_row a.id (with_default rows a) ≡ true
own_default a rows some = grind (arith, common_steps, own_at, same_id)

pub each_has_row : (c : List Rule) (rows : List Row)
    → Each (λ a. is_empty a.defaults ≡ false → has_row a.id (fold with_default rows c) ≡ true) c
each_has_row [] rows = tt
each_has_row (a ∷ c) rows = grind (arith, common_steps, kept, own_default, each_has_row c (with_default rows a))
