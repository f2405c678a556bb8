use Rattle.sand_desk.proofs.OneDropper.{leaves_the_same, writes_the_same_pile}
use Rattle.sand_desk.proofs.laws.drops_of_one_dropper.Goals as goal

pub returns-clause-record : goal.returns-clause-record
returns-clause-record c = leaves_the_same

pub returns-clause-pile : goal.returns-clause-pile
returns-clause-pile c = writes_the_same_pile
