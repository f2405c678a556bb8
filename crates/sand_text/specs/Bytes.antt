-- The bytes of a text, and the value of digits.
use Rattle.std.specs.Prelude.{ℕ, ◌+◌, List, Bool, not, ◌&&◌, ◌||◌, ◌==◌, nat_le, nat_lt, min, length, slice_index}
use Rattle.std.specs.List.{list_any, position_or_len, slice_split}
use Rattle.std.specs.Str.Parse.{digits_value}
use Rattle.sand_model.specs.Piles.{most_grains}

abbrev pub is_digit : ℕ → Bool
is_digit b = nat_le 48 b && nat_le b 57

abbrev pub is_other : ℕ → Bool
is_other b = not (is_digit b)

abbrev pub is_space : ℕ → Bool
is_space b = (b == 9) || (b == 10) || (b == 13) || (b == 32)

-- the number of digits at the front
abbrev pub digits_len : List ℕ → ℕ
digits_len bytes = position_or_len is_other bytes

-- the number of bytes before the first white space
abbrev pub token_len : List ℕ → ℕ
token_len text = position_or_len is_space text

-- a single letter `c`
abbrev pub is_letter : List ℕ → Bool
is_letter token = length token == 1 && slice_index token 0 == 99

-- the value, or one over the grain limit if it is larger
abbrev pub capped : ℕ → ℕ
capped value = min value (most_grains + 1)

-- some run of digits anywhere in the text is a number over the limit
abbrev pub has_large : List ℕ → Bool
has_large text = list_any (λ run. nat_lt most_grains (digits_value 10 run)) (slice_split is_other text)
