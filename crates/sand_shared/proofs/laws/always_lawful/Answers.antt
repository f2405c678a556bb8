use Rattle.sand_shared.proofs.Lawfulness.{always_lawful}
use Rattle.sand_shared.proofs.laws.always_lawful.Goals as goal

pub returns : goal.returns
returns c = always_lawful
