use Rattle.sand_model.proofs.Edges.{topples_few}
use Rattle.sand_model.proofs.laws.drops_topple_few.Goals as goal

pub returns : goal.returns
returns c = topples_few
