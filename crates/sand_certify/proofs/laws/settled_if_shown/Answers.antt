use Rattle.sand_certify.proofs.TightIfBurning.{settled_if_shown}
use Rattle.sand_certify.proofs.laws.settled_if_shown.Goals as goal

pub returns : goal.returns
returns c = settled_if_shown
