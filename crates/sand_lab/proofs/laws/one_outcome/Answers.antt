use Rattle.sand_lab.proofs.RunHasOneOutcome.{one_outcome}
use Rattle.sand_lab.proofs.laws.one_outcome.Goals as goal

pub returns : goal.returns
returns c = one_outcome
