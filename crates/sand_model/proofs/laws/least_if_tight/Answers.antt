use Rattle.sand_model.proofs.SettledIfTight.{settled_if_tight}
use Rattle.sand_model.proofs.laws.least_if_tight.Goals as goal

pub returns : goal.returns
returns c = settled_if_tight
