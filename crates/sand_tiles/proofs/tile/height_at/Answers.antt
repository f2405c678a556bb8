use Rattle.std.proofs.Common.{arith}
use Rattle.sand_tiles.proofs.Bits.{read_bit}
use Rattle.sand_tiles.proofs.tile.height_at.Goals as goal

pub returns : goal.returns
returns c = omega (arith, read_bit)
