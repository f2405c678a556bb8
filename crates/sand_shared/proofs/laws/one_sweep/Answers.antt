use Rattle.sand_shared.proofs.SitesInTurn.{one_sweep}
use Rattle.sand_shared.proofs.laws.one_sweep.Goals as goal

pub returns : goal.returns
returns c = one_sweep
