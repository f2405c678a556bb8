-- What the shifts of a word, and the masks of the first and the last column, do to each place.
use Rattle.sand_tiles.proofs.Common.{ℕ, eqb, ◌≡◌, ◌+◌, ◌-◌, ◌*◌, ◌/◌, ◌%◌, ◌^◌, ◌<◌, ◌≤◌, refl, sym, ◌∙◌, ap, arith, bit_and, bit_at, agree_below_at, pow_pos, shr-shr, shr_split, bit_at-zero, bit_at_above, bit_at_cat_low, bit_at_cat_high}
use Rattle.std.proofs.lemmas.Bool.Decides.{nat_tests}
use Rattle.sand_model.specs.Sand.{one_at}
use Rattle.sand_tiles.specs.Places.{bit, north, south, west, east}
use Rattle.sand_tiles.proofs.Bits.{at_place, both_le}

pub bit_shr : (a k p : ℕ) → bit (a / 2 ^ k) p ≡ bit a (p + k)
unfolding bit
bit_shr a k p = ap (λ x. x % 2) (shr-shr a k p) ∙ ap (bit_at a) (let e : k + p ≡ p + k = omega arith in e)

pub bit_above : (a p : ℕ) → a < 2 ^ 64 → 64 ≤ p → bit a p ≡ 0
unfolding bit
bit_above a p fits high = bit_at_above a 64 p fits high

pub cut : (a p : ℕ) → p < 64 → bit (a % 2 ^ 64) p ≡ bit a p
unfolding bit
cut a p low = sym (bit_at_cat_low (a / 2 ^ 64) 64 (a % 2 ^ 64) p low) ∙ ap (λ x. bit_at x p) (shr_split a 64)

shifted : (a k p : ℕ) → p < 64 → bit (a * 2 ^ k % 2 ^ 64) p ≡ bit_at (a * 2 ^ k + 0) p
unfolding bit
shifted a k p low = let e : a * 2 ^ k ≡ a * 2 ^ k + 0 = omega arith in cut (a * 2 ^ k) p low ∙ ap (λ x. bit_at x p) e

pub bit_shl_low : (a k p : ℕ) → p < 64 → p < k → bit (a * 2 ^ k % 2 ^ 64) p ≡ 0
bit_shl_low a k p low less = shifted a k p low ∙ bit_at_cat_low a k 0 p less ∙ bit_at-zero p

pub bit_shl : (a k p : ℕ) → p < 64 → k ≤ p → bit (a * 2 ^ k % 2 ^ 64) p ≡ bit a (p - k)
unfolding bit
bit_shl a k p low more = shifted a k p low ∙ bit_at_cat_high a k 0 p (pow_pos k) more

pub masked_out : (a m p : ℕ) → bit m p ≡ 0 → bit (bit_and a m) p ≡ 0
masked_out a m p e = omega (arith, both_le)

pub masked_in : (a m p : ℕ) → bit m p ≡ 1 → bit (bit_and a m) p ≡ bit a p
masked_in a m p e = omega (arith, both_le)

-- all places except the first column, and all except the last
not_first : (p : ℕ) → p < 64 → eqb (bit 18374403900871474942 p) 0 ≡ eqb (p % 8) 0
unfolding bit
not_first p low = agree_below_at (λ q. eqb (bit_at 18374403900871474942 q) 0) (λ q. eqb (q % 8) 0) 64 p refl low

not_last : (p : ℕ) → p < 64 → eqb (bit 9187201950435737471 p) 0 ≡ eqb (p % 8) 7
unfolding bit
not_last p low = agree_below_at (λ q. eqb (bit_at 9187201950435737471 q) 0) (λ q. eqb (q % 8) 7) 64 p refl low

pub north_of : (a p : ℕ) → p < 64 → bit (a * 256 % 18446744073709551616) p ≡ north (bit a) p
unfolding north
north_of a p low = grind (arith, nat_tests, bit_shl_low a 8 p low, bit_shl a 8 p low)

pub south_of : (a p : ℕ) → a < 2 ^ 64 → p < 64 → bit (a / 256) p ≡ south (bit a) p
unfolding south
south_of a p fits low = grind (arith, nat_tests, bit_shr a 8 p, bit_above a (p + 8) fits)

pub west_of : (a p : ℕ) → p < 64 → bit (bit_and (a * 2 % 18446744073709551616) 18374403900871474942) p ≡ west (bit a) p
unfolding west
west_of a p low =
    let shifted = bit_shl a 1 p low in
    grind (arith, nat_tests, at_place, not_first p low)

pub east_of : (a p : ℕ) → p < 64 → bit (bit_and (a / 2) 9187201950435737471) p ≡ east (bit a) p
unfolding east
east_of a p low = grind (arith, nat_tests, at_place, not_last p low, bit_shr a 1 p)

bit_one : (p : ℕ) → bit 1 p ≡ one_at 0 p
unfolding bit
bit_one p = grind (arith, nat_tests, bit_at_above 1 1 p)

pub bit_one_place : (k p : ℕ) → p < 64 → bit (1 * 2 ^ k % 2 ^ 64) p ≡ one_at k p
bit_one_place k p low = grind (arith, nat_tests, bit_shl_low 1 k p low, bit_shl 1 k p low, bit_one (p - k))
