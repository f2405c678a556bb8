use Rattle.std.proofs.Common.{arith}
use Rattle.sand_tiles.proofs.Moves.{north_of, south_of, west_of, east_of}
use Rattle.sand_tiles.proofs.visiting.moved.Goals as goal

pub returns : goal.returns
returns c p low = (
  omega (arith, north_of c.args.set p low),
  omega (arith, south_of c.args.set p (omega arith) low),
  omega (arith, west_of c.args.set p low),
  omega (arith, east_of c.args.set p low),
)
