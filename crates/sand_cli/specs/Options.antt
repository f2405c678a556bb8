-- The values of a command's options.
use Rattle.std.specs.Prelude.{ℕ, Bool, false, List, Option, Some, None, if◌then◌else◌, codes, option_and_then}
use Rattle.std.specs.Option.{option_map_or}
use Rattle.std.specs.Str.{bytes_eq}
use Rattle.std.specs.Str.Parse.{digits_value, without_leading_plus}
use Rattle.clap.specs.Words.{Row, Text, one_of}
use Rattle.clap.specs.ValueTests.{is_unsigned_in}

-- whether the flag is given
abbrev pub flag_in : Text → List Row → Bool
flag_in name options = option_map_or (λ text. bytes_eq text (codes "true")) (one_of name options) false

-- the value of decimal digits, with an optional plus sign
abbrev pub value_of : Text → ℕ
value_of text = digits_value 10 (without_leading_plus text)

-- the number in the text, if it is at most `most`
abbrev pub number_of : ℕ → Text → Option ℕ
number_of most text = if is_unsigned_in 0 most text then Some (value_of text) else None

-- the option's value, a `usize`
abbrev pub number_in : Text → List Row → Option ℕ
number_in name options = option_and_then (number_of 18446744073709551615) (one_of name options)

-- the setting's value, a `u32`
abbrev pub setting_in : Text → List Row → Option ℕ
setting_in name options = option_and_then (number_of 4294967295) (one_of name options)
