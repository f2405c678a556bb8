use Rattle.sand_model.proofs.Sandpile.{settled_same}
use Rattle.sand_model.proofs.laws.settled_by_site.Goals as goal

pub returns : goal.returns
returns c = settled_same
