-- At each place a half adder keeps the sum (`at_place`). No count was over 1022, so nothing is carried out of the last
-- plane.
use Rattle.std.proofs.Common.{arith}
use Rattle.sand_tiles.proofs.Bits.{at_place}
use Rattle.sand_tiles.proofs.counting.add_to.Goals as goal

pub returns : goal.returns
returns c p low = omega (arith, at_place, c.requires p low)
