-- The number of places in a set.
use Rattle.sand_tiles.proofs.Common.{ℕ, zero, suc, ◌≡◌, ◌+◌, ◌*◌, ◌/◌, ◌%◌, ◌^◌, ◌<◌, ◌≤◌, refl, ◌∙◌, ap, arith, bit_and, count_ones, ones_cat, mod-pow-add, pow_pos, bit_at-lt}
use Rattle.std.specs.Int.Count.{ones, ones_step}
use Rattle.sand_model.proofs.SumsBelow.{sum_below_same, sum_below-add, sum_below-scale}
use Rattle.sand_model.proofs.Bounds.{at_most_all}
use Rattle.sand_model.specs.Sand.{sum_below}
use Rattle.sand_tiles.specs.Places.{bit}
use Rattle.sand_tiles.proofs.Bits.{bit_le, at_place}

ones_zero : ones 0 ≡ 0
unfolding ones
ones_zero = refl

ones_of_digit : (d : ℕ) → d < 2 → ones d ≡ d
ones_of_digit d small =
    let none : d / 2 ≡ 0 = omega arith in
    omega (arith, ones_step d, ap ones none, ones_zero)

ones_below : (n k : ℕ) → ones (n % 2 ^ k) ≡ sum_below k (bit n)
unfolding sum_below bit
ones_below n zero = ap ones (let e : n % 2 ^ 0 ≡ 0 = omega arith in e) ∙ ones_zero
ones_below n (suc k) =
    let one : suc k ≡ 1 + k = omega arith in
    let below : n % 2 ^ k < 2 ^ k = omega (arith, pow_pos k) in
    ap (λ j. ones (n % 2 ^ j)) one ∙ ap ones (mod-pow-add n 1 k) ∙ ones_cat k (n / 2 ^ k % 2) (n % 2 ^ k) below
    ∙ omega (arith, ones_of_digit (n / 2 ^ k % 2) (bit_at-lt n k), ones_below n k)

pub count_ones_of : (set : ℕ) → set < 2 ^ 64 → count_ones set ≡ sum_below 64 (bit set)
count_ones_of set fits = ap ones (let e : set ≡ set % 2 ^ 64 = omega arith in e) ∙ ones_below set 64

pub few_ones : (set : ℕ) → sum_below 64 (bit set) ≤ 64
few_ones set = at_most_all 64 (bit set) (λ p low. bit_le set p)

-- ---- three-bit numbers, summed over the places of a set

both_is : (a b p : ℕ) → bit (bit_and a b) p ≡ bit a p * bit b p
both_is a b p = grind (arith, at_place)

spread_out : (s l h d : ℕ) → s * l + 2 * (s * h) + 4 * (s * d) ≡ (l + 2 * h + 4 * d) * s
spread_out s l h d = grind arith

pub ones_of_sum : (low high due set : ℕ)
    → sum_below 64 (bit (bit_and set low)) + 2 * sum_below 64 (bit (bit_and set high))
    + 4 * sum_below 64 (bit (bit_and set due))
    ≡ sum_below 64 (λ p. (bit low p + 2 * bit high p + 4 * bit due p) * bit set p)
ones_of_sum low high due set =
    let x = bit_and set low in
    let y = bit_and set high in
    let z = bit_and set due in
    let same = sum_below_same 64 (λ p. bit x p + 2 * bit y p + 4 * bit z p)
    (λ p. (bit low p + 2 * bit high p + 4 * bit due p) * bit set p)
    (λ p below. omega (arith, both_is, spread_out (bit set p) (bit low p) (bit high p) (bit due p))) in
    omega (
      arith,
      sum_below-scale 64 2 (bit y),
      sum_below-scale 64 4 (bit z),
      sum_below-add 64 (bit x) (λ p. 2 * bit y p),
      sum_below-add 64 (λ p. bit x p + 2 * bit y p) (λ p. 4 * bit z p),
    )
