-- If a level accepts its words, each number that its options have is in its range.
use Rattle.sand_cli.proofs.Common.{◌≡◌, ◌∙◌, ◌≤◌, ℕ, Bool, true, false, not, cond, List, [], ◌∷◌, Option, Some, refl, sym, ap, option_and_then, Text, Shape, accepts, is_unsigned_in, action_of, has_row, one_of, rows_after, ValueParser, number_of, value_of}
use Rattle.std.specs.Prelude.{⊤}
use Rattle.std.specs.List.{list_any}
use Rattle.clap.specs.Words.{Row, Rule}
use Rattle.clap.specs.Facts.{parser_of_value}
use Rattle.clap.specs.Values.{read_as, reading_of}
use Rattle.clap.specs.declared.builder.action.ArgAction.TheVariants.{Set}
use Rattle.clap.specs.declared.builder.value_parser.ValueParser.TheVariants.{Unsigned}
use Rattle.clap.specs.declared.error.kind.ErrorKind.TheVariants.{MissingRequiredArgument}
use Rattle.sand_cli.proofs.Alone.{IsAlone, are_apart, each_alone}
use Rattle.sand_cli.proofs.Each.{Each, each_both, each_weaker}
use Rattle.sand_cli.proofs.Entering.{Accepts}
use Rattle.sand_cli.proofs.Passing.{level_fine, row_passes}
use Rattle.sand_cli.proofs.Reading.{passed_number}

-- the property of the range, if the option takes a number
abbrev if_ranged : Option ValueParser → (ℕ → ℕ → Type 0) → Type 0
if_ranged (Some (Unsigned least most)) P = P least most
if_ranged _ P = ⊤

-- if the option takes a number, it takes one, of at most `bound`
abbrev pub TakesNumber : ℕ → Rule → Type 0
TakesNumber bound a = if_ranged a.parser (λ least most. (action_of a ≡ Set)
    × (a.range ≡ Some (record { start_inclusive = 1; end_inclusive = 1 })) × (most ≤ bound))

-- the text is a number from `least` to `most`
pub record IsNumber (bound least most : ℕ) (text : Option Text) : Type 0 where
  pub number : ℕ
  pub read : option_and_then (number_of bound) text ≡ Some number
  pub low : least ≤ number
  pub high : number ≤ most

-- if the option takes a number and has a row, it has a number in its range
abbrev HasNumber : ℕ → List Row → Rule → Type 0
HasNumber bound rows a =
    if_ranged a.parser (λ least most. has_row a.id rows ≡ true → IsNumber bound least most (one_of a.id rows))

has_number : (bound : ℕ) (s : Shape) (words : List Text) (a : Rule) → IsAlone s.rules a → TakesNumber bound a
    → Accepts s words → HasNumber bound (rows_after s.rules [] words) a
has_number bound s words a alone takes passes = go a.parser refl takes
  where
    go : (p : Option ValueParser) → a.parser ≡ p
        → if_ranged p (λ least most. (action_of a ≡ Set)
        × (a.range ≡ Some (record { start_inclusive = 1; end_inclusive = 1 })) × (most ≤ bound))
        → if_ranged p (λ least most. has_row a.id (rows_after s.rules [] words) ≡ true
        → IsNumber bound least most (one_of a.id (rows_after s.rules [] words)))
    go (Some (Unsigned least most)) is (set, one, small) = λ has.
        let fine = level_fine a s (record { set = set; one = one; none_else = alone }) words passes in
        let text = row_passes a (rows_after s.rules [] words) fine has in
        let passed : is_unsigned_in least most text.0 ≡ true =
        ap (λ q. accepts a.ignore_case (parser_of_value q) text.0) (sym is) ∙ text.2 in
        let number = passed_number least most bound text.0 small passed in
        let read = text.1 ∙ ap (λ q. Some (read_as (reading_of (parser_of_value q)) text.0)) is in
        record {
          number = value_of text.0;
          read = ap (option_and_then (number_of bound)) read ∙ number.0;
          low = number.1;
          high = number.2;
        }
    go _ is takes = tt

pub each_number : (bound : ℕ) (s : Shape) (words : List Text) → are_apart s.rules ≡ true
    → Each (TakesNumber bound) s.rules → Accepts s words → Each (HasNumber bound (rows_after s.rules [] words)) s.rules
each_number bound s words apart takes passes =
    each_weaker _ _ s.rules (λ a h. has_number bound s words a h.0 h.1 passes)
    (each_both _ _ s.rules (each_alone s.rules apart) takes)

-- if no required argument is missing, all are given
pub all_given : (given : List Bool) → cond (list_any not given) (MissingRequiredArgument ∷ []) [] ≡ []
    → Each (λ b. b ≡ true) given
all_given [] e = tt
all_given (true ∷ given) e = (refl, all_given given e)
all_given (false ∷ given) e = cc
