-- The decimal digits of a number.
use Rattle.sand_text.proofs.Common.{◌≡◌, ℕ, ◌<◌, ◌^◌, get_or, decimal, true, arith, All, nat_tests, decimal_is_IsNumeral, get_or_default, is_digit}
use Rattle.std.specs.Int.{IsInRange}
use Rattle.std.proofs.lemmas.Str.Parse.{digit_at}

in_digits : (b : ℕ) → IsInRange 48 57 b → is_digit b ≡ true
in_digits b h = grind (arith, nat_tests, h.0, h.1)

pub only_digits : (n : ℕ) → n < 2 ^ 64 → All (λ b. is_digit b ≡ true) (decimal n)
only_digits n fits = λ k d lt. in_digits (get_or (decimal n) k d)
    (rw (get_or_default (decimal n) k 0 d lt) at (digit_at (decimal n) k (decimal_is_IsNumeral n fits).0.1 lt))
