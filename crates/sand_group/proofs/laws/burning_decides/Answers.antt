use Rattle.sand_group.proofs.BurningDecides.{burning_decides}
use Rattle.sand_group.proofs.laws.burning_decides.Goals as goal

pub returns : goal.returns
returns c = burning_decides
