use Rattle.sand_group.proofs.SuperstableHeights.{duality, class_has_superstable, superstables_equal}
use Rattle.sand_group.proofs.laws.one_superstable_in_each_class.Goals as goal

pub returns : goal.returns
returns c = record { duality = duality; some = class_has_superstable; equivalent = superstables_equal }
