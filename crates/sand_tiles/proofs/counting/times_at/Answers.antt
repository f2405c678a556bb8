use Rattle.std.proofs.Common.{arith}
use Rattle.sand_tiles.proofs.Bits.{read_bit}
use Rattle.sand_tiles.proofs.counting.times_at.Goals as goal

pub returns-then-has_none_from_16 : goal.returns-then-has_none_from_16
returns-then-has_none_from_16 c =
    omega (arith, read_bit, c.has_none_from_16.ensures c.if-has_none_from_16.true c.args.place)

pub returns : goal.returns
returns c = omega (arith, read_bit)
