-- One more byte of a token.
use Rattle.sand_text.proofs.Common.{◌≡◌, ◌≢◌, ℕ, ◌+◌, ◌*◌, ◌<◌, ◌≤◌, List, true, false, length, take, get_or, cond, eqb, sym, arith, eq-eqb, length-take, take_more, position_or_len_push, position_or_len_is, digits_value, is_digit, is_other, is_space, digits_len, token_len, capped, usual}
use Rattle.std.proofs.lemmas.Int.Digits.{digits_value_more}
use Rattle.std.specs.Char.{digit_value}

-- a token ends at the first white space
pub token_ends : (bs : List ℕ) (i : ℕ) → i ≤ length bs
    → ((k : ℕ) → k < i → is_space (get_or bs k 0) ≡ false)
    → (i < length bs → is_space (get_or bs i 0) ≡ true) → i ≡ token_len bs
token_ends bs i le before here = sym (position_or_len_is is_space bs i 0 le before here)

pushed : (bs : List ℕ) (i : ℕ) → i < length bs
    → digits_len (take (i + 1) bs)
    ≡ cond (eqb (digits_len (take i bs)) i) (i + cond (is_other (get_or bs i 0)) 0 1) (digits_len (take i bs))
pushed bs i lt = grind (arith, usual, length-take, take_more, position_or_len_push)

-- the byte continues the digits at the front
pub more_digits : (bs : List ℕ) (i d : ℕ) → i < length bs
    → d ≡ digits_len (take i bs) → d ≡ i → is_digit (get_or bs i 0) ≡ true
    → d + 1 ≡ digits_len (take (i + 1) bs)
more_digits bs i d lt e here digit = grind (arith, usual, eq-eqb, pushed)

-- the byte is not a digit, or the digits at the front have already ended
pub no_more_digits : (bs : List ℕ) (i d : ℕ) → i < length bs
    → d ≡ digits_len (take i bs) → is_digit (get_or bs i 0) ≡ false
    → d ≡ digits_len (take (i + 1) bs)
no_more_digits bs i d lt e other = grind (arith, usual, pushed)

pub digits_ended : (bs : List ℕ) (i d : ℕ) → i < length bs → d ≡ digits_len (take i bs) → d ≢ i
    → d ≡ digits_len (take (i + 1) bs)
digits_ended bs i d lt e behind = grind (arith, usual, pushed)

-- the value of one more digit
pub more_value : (bs : List ℕ) (i d value more : ℕ) → i < length bs
    → d ≡ i → value ≡ capped (digits_value 10 (take d bs))
    → more ≡ capped (value * 10 + digit_value (get_or bs i 0))
    → more ≡ capped (digits_value 10 (take (d + 1) bs))
more_value bs i d value more lt here so_far grown = grind (arith, usual, digits_value_more)
