use Rattle.std.proofs.lemmas.Nat.{and_le_r}
use Rattle.sand_tiles.proofs.Rows.{spread_four}
use Rattle.sand_tiles.proofs.reading.spread.Goals as goal

pub returns-clause-value : goal.returns-clause-value
returns-clause-value c = spread_four c.args.set c.args.place

pub returns-clause-bound : goal.returns-clause-bound
returns-clause-bound c = and_le_r _ 281479271743489
