use Rattle.std.proofs.Common.{arith}
use Rattle.sand_tiles.proofs.Bits.{at_place}
use Rattle.sand_tiles.proofs.visiting.next_to.Goals as goal

pub returns : goal.returns
returns c p low =
    (omega (arith, at_place, c.moved-south.ensures p low), omega (arith, at_place, c.moved-south.ensures p low))
