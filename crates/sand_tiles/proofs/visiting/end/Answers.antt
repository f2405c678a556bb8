use Rattle.sand_tiles.proofs.Rounds.{visit_ends}
use Rattle.sand_tiles.proofs.visiting.end.Goals as goal

pub returns : goal.returns
returns c free start visit = visit_ends c.args.tile.now c.args.last free start visit c.requires
