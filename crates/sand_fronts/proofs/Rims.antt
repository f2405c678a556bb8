-- The grains that leave a tile over its rim, by the tile that they leave and by the tile that they reach.
use Rattle.sand_fronts.proofs.Common.{ℕ, cond, eqb, ◌≡◌, ◌+◌, ◌-◌, ◌*◌, ◌/◌, ◌%◌, ◌^◌, ◌<◌, ◌≤◌, refl, ◌∙◌, ap, arith, bit_and, bit_at, agree_below_at, nat_tests, mod-mul-add, div-add-mod', mod_below, bit_at-lt, Grid, bit_shr, bit_shl, bit_shl_low, bit_above, masked_out, masked_in, across, pitch}
use Rattle.sand_tiles.specs.Places.{bit}
use Rattle.sand_fronts.specs.Tiling.{over_north, over_south, over_west, over_east, to_west, to_east, shift_west, shift_east}
use Rattle.sand_fronts.specs.Waves.{only}

-- ---- the words that are handed over

pub to_north : (k a m p : ℕ) → p < 64 → only k (bit (a * 2 ^ 56 % 2 ^ 64)) m p ≡ only k (over_south (bit a)) m p
unfolding over_south only
to_north k a m p low = grind (arith, nat_tests, bit_shl_low a 56 p low, bit_shl a 56 p low)

pub to_south : (k a m p : ℕ) → a < 2 ^ 64 → p < 64 → only k (bit (a / 2 ^ 56)) m p ≡ only k (over_north (bit a)) m p
unfolding over_north only
to_south k a m p fits low = grind (arith, nat_tests, bit_shr a 56 p, bit_above a (p + 56) fits)

-- the first column, as a set
first_column : (p : ℕ) → p < 64 → bit 72340172838076673 p ≡ cond (eqb (p % 8) 0) 1 0
unfolding bit
first_column p low =
    let few = bit_at-lt 72340172838076673 p in
    let same = agree_below_at (λ q. eqb (bit_at 72340172838076673 q) 1) (λ q. eqb (q % 8) 0) 64 p refl low in
    grind (arith, nat_tests)

pub to_the_east : (k a s m p : ℕ) → p < 64
    → only k (bit (bit_and (a / 2 ^ s) 72340172838076673)) m p ≡ only k (over_west s (bit a)) m p
unfolding over_west only
to_the_east k a s m p low =
    let first = first_column p low in
    let shifted = bit_shr a s p in
    let out = masked_out (a / 2 ^ s) 72340172838076673 p in
    let in' = masked_in (a / 2 ^ s) 72340172838076673 p in
    grind (arith, nat_tests)

pub to_the_west : (k a s m p : ℕ) → s ≤ 7 → p < 64
    → only k (bit (bit_and a 72340172838076673 * 2 ^ s % 2 ^ 64)) m p ≡ only k (over_east s (bit a)) m p
unfolding over_east only
to_the_west k a s m p small low =
    let first = first_column (p - s) (omega arith) in
    let before = bit_shl_low (bit_and a 72340172838076673) s p low in
    let shifted = bit_shl (bit_and a 72340172838076673) s p low in
    let out = masked_out a 72340172838076673 (p - s) in
    let in' = masked_in a 72340172838076673 (p - s) in
    grind (arith, nat_tests)

-- ---- from the tile k

-- a tile in a column of the grid, not of the border
pub record IsInner (g : Grid) (k : ℕ) : Type 0 where
  pub first : 1 ≤ k % pitch g
  pub last : k % pitch g ≤ across g
  pub rows : 2 * pitch g ≤ k

pub north_rim : (g : Grid) (f : ℕ → ℕ) (k m p : ℕ) → pitch g ≤ k
    → over_south (only k f (m + pitch g)) p ≡ only (k - pitch g) (over_south f) m p
unfolding over_south only
north_rim g f k m p high = grind (arith, nat_tests)

pub south_rim : (g : Grid) (f : ℕ → ℕ) (k m p : ℕ) → pitch g ≤ m
    → over_north (only k f (m - pitch g)) p ≡ only (k + pitch g) (over_north f) m p
unfolding over_north only
south_rim g f k m p high = grind (arith, nat_tests)

-- a tile d columns further on in the same row
column_more : (g : Grid) (k d : ℕ) → k % pitch g + d < pitch g → (k + d) % pitch g ≡ k % pitch g + d
column_more g k d less =
    let parts = div-add-mod' k (pitch g) in
    ap (λ i. i % pitch g) (let e : k + d ≡ k / pitch g * pitch g + (k % pitch g + d) = omega arith in e)
    ∙ mod-mul-add (k / pitch g) (pitch g) (k % pitch g + d) less

column_less : (g : Grid) (k d : ℕ) → d ≤ k % pitch g → 0 < pitch g → (k - d) % pitch g ≡ k % pitch g - d
column_less g k d le pos =
    let parts = div-add-mod' k (pitch g) in
    let small : k % pitch g < pitch g = mod_below k (pitch g) pos in
    ap (λ i. i % pitch g) (let e : k - d ≡ k / pitch g * pitch g + (k % pitch g - d) = omega arith in e)
    ∙ mod-mul-add (k / pitch g) (pitch g) (k % pitch g - d) (omega arith)

-- if k is the tile to the west of m, then m is the tile to the east of k
west_then_east : (g : Grid) (m k : ℕ) → IsInner g m → IsInner g k → to_west g m ≡ k
    → (m ≡ to_east g k) × (shift_west g m ≡ shift_east g k)
unfolding to_west to_east shift_west shift_east
west_then_east g m k im ik to =
    let far = column_more g m (across g - 1) in
    let near = column_more g k 1 in
    (grind (arith, nat_tests), grind (arith, nat_tests))

east_then_west : (g : Grid) (m k : ℕ) → IsInner g m → IsInner g k → to_east g m ≡ k
    → (m ≡ to_west g k) × (shift_east g m ≡ shift_west g k)
unfolding to_west to_east shift_west shift_east
east_then_west g m k im ik to =
    let far = column_less g m (across g - 1) in
    let near = column_more g m 1 in
    (grind (arith, nat_tests), grind (arith, nat_tests))

pub east_rim : (g : Grid) (f : ℕ → ℕ) (k m p : ℕ) → IsInner g m → IsInner g k
    → over_west (shift_west g m) (only k f (to_west g m)) p ≡ only (to_east g k) (over_west (shift_east g k) f) m p
unfolding over_west only
east_rim g f k m p im ik =
    let to = west_then_east g m k im ik in
    let back = east_then_west g k m ik im in
    grind (arith, nat_tests)

pub west_rim : (g : Grid) (f : ℕ → ℕ) (k m p : ℕ) → IsInner g m → IsInner g k
    → over_east (shift_east g m) (only k f (to_east g m)) p ≡ only (to_west g k) (over_east (shift_west g k) f) m p
unfolding over_east only
west_rim g f k m p im ik =
    let to = east_then_west g m k im ik in
    let back = west_then_east g k m ik im in
    grind (arith, nat_tests)
