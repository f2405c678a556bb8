use Rattle.std.proofs.Common.{arith}
use Rattle.sand_tiles.specs.Counts.{times}
use Rattle.sand_tiles.proofs.Bits.{bit_le}
use Rattle.sand_tiles.proofs.reading.eight_times.Goals as goal

pub returns : goal.returns
returns c = c.numbers_of.ensures (times c.args.recent.now.planes) c.args.place (λ q. omega (arith, bit_le))
    c.four_times.ensures c.four_times-2.ensures
