use Rattle.sand_group.proofs.RecurrentIsUnique.{recurrent_unique}
use Rattle.sand_group.proofs.OperationsSettle.{class_has_one, represented_once}
use Rattle.sand_group.proofs.laws.one_in_each_class.Goals as goal

pub returns : goal.returns
returns c = record { some = class_has_one; equivalent = recurrent_unique; represented = represented_once }
