use Rattle.sand_model.proofs.Sandpile.{settles_after}
use Rattle.sand_model.proofs.laws.settles_after.Goals as goal

pub returns : goal.returns
returns c = settles_after
