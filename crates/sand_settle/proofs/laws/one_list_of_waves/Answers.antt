use Rattle.sand_fronts.proofs.WaveSizes as proved
use Rattle.sand_settle.proofs.laws.one_list_of_waves.Goals as goal

pub returns-clause-unique : goal.returns-clause-unique
returns-clause-unique c = proved.waves_once

pub returns-clause-add_up : goal.returns-clause-add_up
returns-clause-add_up c = proved.waves_add_up
