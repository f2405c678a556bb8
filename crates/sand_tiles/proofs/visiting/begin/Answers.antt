use Rattle.sand_tiles.proofs.Rounds.{visit_begins}
use Rattle.sand_tiles.proofs.visiting.begin.Goals as goal

pub returns : goal.returns
returns c = visit_begins c.args.tile.now c.args.free c.args.start c.requires
