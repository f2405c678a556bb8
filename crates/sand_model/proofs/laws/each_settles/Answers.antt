use Rattle.sand_model.proofs.EachSettles.{settles}
use Rattle.sand_model.proofs.laws.each_settles.Goals as goal

pub returns : goal.returns
returns c = settles
