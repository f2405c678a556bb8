use Rattle.sand_settle.proofs.Drops as proved
use Rattle.sand_settle.proofs.laws.drops_add_up.Goals as goal

pub returns : goal.returns
returns c = proved.drops_add_up
