use Rattle.sand_model.proofs.Sandpile.{settled_once}
use Rattle.sand_model.proofs.laws.settled_once.Goals as goal

pub returns : goal.returns
returns c = settled_once
