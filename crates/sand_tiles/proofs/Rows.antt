-- Four bits spread over a word, and the numbers of eight places read from two words.
use Rattle.sand_tiles.proofs.Common.{ℕ, zero, suc, true, eqb, ◌≡◌, ◌+◌, ◌*◌, ◌/◌, ◌%◌, ◌^◌, ◌<◌, [], ◌∷◌, refl, ◌∙◌, ap, arith, bit_and, slice_index, agree_below_at, eqb-true, and_mask, shr-shr}
use Rattle.sand_tiles.specs.Places.{bit}
use Rattle.sand_tiles.specs.Rows.{four}

-- the bits of a number below 16, 16 bits apart
abbrev apart : ℕ → ℕ
apart n = n % 2 + 65536 * (n / 2 % 2) + 4294967296 * (n / 4 % 2) + 281474976710656 * (n / 8 % 2)

spread_apart : (n : ℕ) → n < 16 → bit_and (n * 35185445863425) 281479271743489 ≡ apart n
spread_apart n few = eqb-true _ _ (agree_below_at (λ q. eqb (bit_and (q * 35185445863425) 281479271743489) (apart q))
    (λ q. true) 16 n refl few)

bit_higher : (a p k : ℕ) → a / 2 ^ p / 2 ^ k % 2 ≡ bit a (p + k)
unfolding bit
bit_higher a p k = ap (λ x. x % 2) (shr-shr a p k)

bit_here : (a p : ℕ) → a / 2 ^ p % 2 ≡ bit a p
unfolding bit
bit_here a p = refl

pub spread_four : (a p : ℕ) → bit_and (bit_and (a / 2 ^ p) 15 * 35185445863425) 281479271743489 ≡ four (bit a) p
spread_four a p =
    let low : bit_and (a / 2 ^ p) 15 ≡ a / 2 ^ p % 16 = and_mask (a / 2 ^ p) 4 in
    spread_apart (bit_and (a / 2 ^ p) 15) (omega arith)
    ∙ omega (arith, bit_here a p, bit_higher a p 1, bit_higher a p 2, bit_higher a p 3)

-- what is true of each number below 8
pub each_of_eight : (P : ℕ → Type 0) → P 0 → P 1 → P 2 → P 3 → P 4 → P 5 → P 6 → P 7 → (c : ℕ) → c < 8 → P c
each_of_eight P a b c d e f g h zero low = a
each_of_eight P a b c d e f g h (suc zero) low = b
each_of_eight P a b c d e f g h (suc (suc zero)) low = c
each_of_eight P a b c d e f g h (suc (suc (suc zero))) low = d
each_of_eight P a b c d e f g h (suc (suc (suc (suc zero)))) low = e
each_of_eight P a b c d e f g h (suc (suc (suc (suc (suc zero))))) low = f
each_of_eight P a b c d e f g h (suc (suc (suc (suc (suc (suc zero)))))) low = g
each_of_eight P a b c d e f g h (suc (suc (suc (suc (suc (suc (suc zero))))))) low = h
each_of_eight P a b c d e f g h (suc (suc (suc (suc (suc (suc (suc (suc n)))))))) low = absurd (omega arith)

-- the numbers of two words, if they are those of eight places
pub numbers_in : (f : ℕ → ℕ) (p x y : ℕ) → ((q : ℕ) → f q < 65536) → x ≡ four f p → y ≡ four f (p + 4)
    → (c : ℕ) → c < 8
    → slice_index (x % 65536 ∷ x / 65536 % 65536 ∷ x / 4294967296 % 65536 ∷ x / 281474976710656
    ∷ y % 65536 ∷ y / 65536 % 65536 ∷ y / 4294967296 % 65536 ∷ y / 281474976710656 ∷ []) c ≡ f (p + c)
numbers_in f p x y few first second =
    let here : f (p + 0) ≡ f p = ap f (omega arith) in
    let next : f (p + 4 + 1) ≡ f (p + 5) = ap f (omega arith) in
    let third : f (p + 4 + 2) ≡ f (p + 6) = ap f (omega arith) in
    let last : f (p + 4 + 3) ≡ f (p + 7) = ap f (omega arith) in
    each_of_eight (λ c. slice_index (x % 65536 ∷ x / 65536 % 65536 ∷ x / 4294967296 % 65536 ∷ x / 281474976710656
    ∷ y % 65536 ∷ y / 65536 % 65536 ∷ y / 4294967296 % 65536 ∷ y / 281474976710656 ∷ []) c ≡ f (p + c))
    (omega (arith, few p, few (p + 1), few (p + 2), few (p + 3)))
    (omega (arith, few p, few (p + 1), few (p + 2), few (p + 3)))
    (omega (arith, few p, few (p + 1), few (p + 2), few (p + 3)))
    (omega (arith, few p, few (p + 1), few (p + 2), few (p + 3)))
    (omega (arith, few (p + 4), few (p + 5), few (p + 6), few (p + 7)))
    (omega (arith, few (p + 4), few (p + 5), few (p + 6), few (p + 7)))
    (omega (arith, few (p + 4), few (p + 5), few (p + 6), few (p + 7)))
    (omega (arith, few (p + 4), few (p + 5), few (p + 6), few (p + 7)))
