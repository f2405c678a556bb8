use Rattle.sand_tiles.proofs.Common.{arith, eqb-false}
use Rattle.sand_tiles.proofs.Bits.{bit_le}
use Rattle.sand_tiles.proofs.counting.count_set.Goals as goal

pub returns-clause-room : goal.returns-clause-room
returns-clause-room c full = record {
  bound = omega (arith, c.requires.sound.bound, eqb-false _ _ full);
  each = λ p low. omega (arith, bit_le, c.requires.sound.each p low, c.add_to.ensures p low);
}
