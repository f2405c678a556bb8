-- One more byte of the runs of digits.
use Rattle.sand_text.proofs.Common.{◌≡◌, ℕ, ◌+◌, ◌*◌, ◌<◌, ◌≤◌, List, [], ◌∷◌, Bool, true, false, length, drop, get_or, ltb, sym, arith, ◌||◌, nat_lt, if◌then◌else◌, list_any, onto_first, slice_split, digits_value, digits_value_after, nat_tests, drop_all, drop_more, slice_split-cons_yes, slice_split-cons_no, is_digit, is_other, capped, has_large, most_grains, usual}
use Rattle.std.specs.Char.{digit_value}

abbrev over : List ℕ → Bool
over run = nat_lt most_grains (digits_value 10 run)

-- one of the runs is over the limit, if the first continues digits with the value v
abbrev large_on : ℕ → List (List ℕ) → Bool
large_on v [] = false
large_on v (run ∷ more) = nat_lt most_grains (digits_value_after 10 v run) || list_any over more

-- the same from an offset on
abbrev pub large_from : ℕ → ℕ → List ℕ → Bool
large_from v k text = large_on v (slice_split is_other (drop k text))

from_none : (runs : List (List ℕ)) → large_on 0 runs ≡ list_any over runs
from_none runs = grind (arith, usual)

pub large_start : (text : List ℕ) → large_from 0 0 text ≡ has_large text
large_start text = from_none (slice_split is_other text)

-- digits never lower a value
grows : (v : ℕ) (run : List ℕ) → v ≤ digits_value_after 10 v run
grows v [] = omega arith
grows v (b ∷ run) = let more = grows (v * 10 + digit_value b) run in omega (arith, more)

digit_on : (v b : ℕ) (runs : List (List ℕ)) → v * 10 + digit_value b ≤ most_grains
    → large_on v (onto_first b runs) ≡ large_on (v * 10 + digit_value b) runs
digit_on v b runs le = grind (arith, usual)

digit_over : (v b : ℕ) (runs : List (List ℕ)) → most_grains < v * 10 + digit_value b
    → large_on v (onto_first b runs) ≡ true
digit_over v b runs lt = grind (arith, usual, grows)

break_on : (v : ℕ) (runs : List (List ℕ)) → v ≤ most_grains → large_on v ([] ∷ runs) ≡ large_on 0 runs
break_on v runs le = let test : ltb most_grains v ≡ false = grind (arith, nat_tests) in rw test (sym (from_none runs))

-- one more byte changes the runs by whether it is a digit
by_byte : (d : Bool) (v w b : ℕ) (rest : List ℕ) → is_digit b ≡ d → v ≤ most_grains
    → w ≡ (if d then capped (v * 10 + digit_value b) else 0) → w ≤ most_grains
    → large_on w (slice_split is_other rest) ≡ large_on v (slice_split is_other (b ∷ rest))
by_byte true v w b rest is le value small = grind (arith, usual, slice_split-cons_no, digit_on)
by_byte false v w b rest is le value small = grind (arith, usual, slice_split-cons_yes, break_on)

over_byte : (d : Bool) (v w b : ℕ) (rest : List ℕ) → is_digit b ≡ d
    → w ≡ (if d then capped (v * 10 + digit_value b) else 0) → most_grains < w
    → large_on v (slice_split is_other (b ∷ rest)) ≡ true
over_byte d v w b rest is value lt = grind (arith, usual, slice_split-cons_no, digit_over)

pub one_byte : (text : List ℕ) (k v w : ℕ) → k < length text → v ≤ most_grains
    → w ≡ (if is_digit (get_or text k 0) then capped (v * 10 + digit_value (get_or text k 0)) else 0)
    → w ≤ most_grains → large_from w (k + 1) text ≡ large_from v k text
one_byte text k v w lt le value small = grind (arith, usual, drop_more, by_byte)

pub found_large : (text : List ℕ) (k v w : ℕ) → k < length text
    → w ≡ (if is_digit (get_or text k 0) then capped (v * 10 + digit_value (get_or text k 0)) else 0)
    → most_grains < w → large_from v k text ≡ true
found_large text k v w lt value more = grind (arith, usual, drop_more, over_byte)

pub none_large : (text : List ℕ) (k v : ℕ) → length text ≤ k → v ≤ most_grains → large_from v k text ≡ false
none_large text k v le small = grind (arith, usual, drop_all)
