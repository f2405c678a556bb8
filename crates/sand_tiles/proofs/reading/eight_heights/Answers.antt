use Rattle.sand_tiles.proofs.Common.{arith, height}
use Rattle.sand_tiles.proofs.Bits.{bit_le}
use Rattle.sand_tiles.proofs.reading.eight_heights.Goals as goal

pub returns : goal.returns
returns c = c.numbers_of.ensures (height c.args.tile.now) c.args.place (λ q. omega (arith, bit_le))
    c.four_heights.ensures c.four_heights-2.ensures
