use Rattle.sand_tiles.proofs.Moves.{bit_one_place}
use Rattle.sand_tiles.proofs.tile.set_of.Goals as goal

pub returns : goal.returns
returns c p low = bit_one_place c.args.place p low
