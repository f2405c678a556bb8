use Rattle.sand_model.proofs.Sandpile.{legal_below}
use Rattle.sand_model.proofs.laws.least_action.Goals as goal

pub returns : goal.returns
returns c = legal_below
