-- How clap reads the digits of a number: as that number, and never as an option.
use Rattle.sand_cli.proofs.Common.{common_steps, ◌≡◌, ◌∙◌, ◌<◌, ◌≤◌, ◌^◌, ℕ, true, false, Some, None, sym, ap, subst, codes, decimal, get_or, arith, bytes_eq, digits_value, without_leading_plus, IsNumeral, bytes_eq-Decides, is_unsigned_in, Text, number_of}
use Rattle.std.proofs.lemmas.Bool.{ne_eqb}
use Rattle.std.proofs.lemmas.Fmt.{decimal_digit, decimal_is_IsNumeral, first_decimal}
use Rattle.std.proofs.lemmas.Str.Parse.{without_leading_plus_none}
use Rattle.clap.specs.Lexer.{long_of, short_of}
use Rattle.clap.specs.declared.builder.value_parser.ValueParser.TheVariants as parser
use Rattle.clap.proofs.ValueTestLemmas.{Accepts-accepts}
use Rattle.sand_cli.proofs.Reading.{passed_number}

pub record IsNoOption (text : Text) : Type 0 where
  pub no_end : bytes_eq text (codes "--") ≡ false
  pub no_long : long_of text ≡ None
  pub no_short : short_of text ≡ None

-- the digits of n do not look like an option, and are a number from `least` to `most`: n, as read up to `bound`
pub record IsText (bound least most n : ℕ) : Type 0 where
  pub no_option : IsNoOption (decimal n)
  pub passes : is_unsigned_in least most (decimal n) ≡ true
  pub reads : number_of bound (decimal n) ≡ Some n

no_hyphen : (text : Text) → 47 < get_or text 0 0 → IsNoOption text
no_hyphen text above = grind (arith, common_steps, ne_eqb, bytes_eq-Decides)

first_digit : (n : ℕ) → n < 2 ^ 64 → 47 < get_or (decimal n) 0 0
first_digit n small = grind (arith, common_steps, decimal_digit, first_decimal)

pub number_text : (bound least most n : ℕ) → least ≤ n → n ≤ most → most ≤ bound → bound < 2 ^ 64
    → IsText bound least most n
number_text bound least most n low high wide fits =
    let small : n < 2 ^ 64 = omega arith in
    let first : 47 < get_or (decimal n) 0 0 = first_digit n small in
    let digits = decimal_is_IsNumeral n small in
    let plain : without_leading_plus (decimal n) ≡ decimal n =
    without_leading_plus_none (decimal n) (λ is. absurd (omega arith)) in
    let value : digits_value 10 (without_leading_plus (decimal n)) ≡ n = ap (digits_value 10) plain ∙ digits.1 in
    let passes : is_unsigned_in least most (decimal n) ≡ true =
    Accepts-accepts false (parser.Unsigned least most) (decimal n)
    (subst (IsNumeral 10) (sym plain) digits.0, omega arith, omega arith, omega arith) in
    record {
      no_option = no_hyphen (decimal n) first;
      passes = passes;
      reads = (passed_number least most bound (decimal n) wide passes).0 ∙ ap (λ m. Some m) value;
    }
