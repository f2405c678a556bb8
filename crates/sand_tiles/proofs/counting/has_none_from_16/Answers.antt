use Rattle.sand_tiles.proofs.Common.{ℕ, ◌≡◌, ◌∙◌, ap, arith, eqb-true, bit_or, bit}
use Rattle.sand_tiles.proofs.Bits.{either, both_le, bit_none}
use Rattle.sand_tiles.proofs.counting.has_none_from_16.Goals as goal

-- a place that is in neither of two sets is in none of them
neither : (a b p : ℕ) → bit (bit_or a b) p ≡ 0 → (bit a p ≡ 0) × (bit b p ≡ 0)
neither a b p none = let e = either a b p in let f = both_le a b p in (omega arith, omega arith)

pub returns : goal.returns
returns c none p =
    let planes = c.args.planes.now in
    let word = ap (λ w. bit w p) (eqb-true _ _ none) ∙ bit_none p in
    let five = neither _ planes.tops p word in
    let four = neither _ planes.upper p five.0 in
    let three = neither _ planes.next p four.0 in
    let two = neither _ planes.sixty_fours p three.0 in
    let one = neither planes.sixteens planes.thirty_twos p two.0 in
    omega arith
