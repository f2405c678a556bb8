use Rattle.sand_tiles.proofs.Rows.{numbers_in}
use Rattle.sand_tiles.proofs.reading.numbers_of.Goals as goal

pub returns : goal.returns
returns c f p few first second = numbers_in f p c.args.first c.args.second few first second
