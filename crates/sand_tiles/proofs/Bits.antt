-- Words as sets of places: what the operators on words do to each place.
use Rattle.sand_tiles.proofs.Common.{ℕ, ◌≡◌, ◌+◌, ◌-◌, ◌*◌, ◌/◌, ◌^◌, ◌<◌, ◌≤◌, arith, bit_and, bit_or, bit_xor, w64, bit_not, and_le_l, or_disjoint, bit_at-zero, same_from_bits_below, bit_at-lt, bit_at_and, bit_at_or, bit_at_xor, bit_at_not, shr_and_one}
use Rattle.sand_tiles.specs.Places.{bit}

pub bit_le : (a p : ℕ) → bit a p ≤ 1
unfolding bit
bit_le a p = omega (arith, bit_at-lt a p)

-- two sets added at each place: sum and carry
pub half : (a b p : ℕ) → bit (bit_xor a b) p + 2 * bit (bit_and a b) p ≡ bit a p + bit b p
unfolding bit
half a b p = rw (bit_at_xor a b p, bit_at_and a b p) (omega (arith, bit_at-lt a p, bit_at-lt b p))

pub either : (a b p : ℕ) → bit (bit_or a b) p + bit (bit_and a b) p ≡ bit a p + bit b p
unfolding bit
either a b p = rw (bit_at_or a b p, bit_at_and a b p) (omega arith)

pub both_le : (a b p : ℕ)
    → (bit (bit_and a b) p ≤ bit a p) × (bit (bit_and a b) p ≤ bit b p) × (bit a p + bit b p ≤ 1 + bit (bit_and a b) p)
both_le a b p =
    let h = half a b p in
    let e = either a b p in
    (omega (arith, bit_le), omega (arith, bit_le), omega (arith, bit_le))

-- what the operators on words do to one place, for `omega` and `grind`
pub ruleset at_place = (bit_le, half, either, both_le)

pub apart : (a b p : ℕ) → bit a p + bit b p ≤ 1 → bit (bit_or a b) p ≡ bit a p + bit b p
apart a b p few = omega (arith, half a b p, either a b p)

pub apart_words : (a b : ℕ) → a < 2 ^ 64 → ((p : ℕ) → p < 64 → bit a p + bit b p ≤ 1) → bit_or a b ≡ a + b
unfolding bit
apart_words a b fits few =
    or_disjoint a b (same_from_bits_below 64 (bit_and a b) 0 (omega (arith, and_le_l a b)) (omega arith)
    (λ p low. omega (arith, half a b p, few p low, bit_at-lt (bit_xor a b) p, bit_at-zero p)))

pub bit_none : (p : ℕ) → bit 0 p ≡ 0
unfolding bit
bit_none p = bit_at-zero p

pub bit_not_is : (a p : ℕ) → a < 2 ^ 64 → p < 64 → bit (bit_not w64 a) p ≡ 1 - bit a p
unfolding bit
bit_not_is a p fits low = bit_at_not w64 a p fits low

pub read_bit : (a p : ℕ) → bit_and (a / 2 ^ p) 1 ≡ bit a p
unfolding bit
read_bit a p = shr_and_one a p
