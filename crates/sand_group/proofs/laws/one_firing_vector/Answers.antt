use Rattle.sand_group.proofs.FiringVectors.{firing_unique, fired_if_equivalent}
use Rattle.sand_group.proofs.laws.one_firing_vector.Goals as goal

pub returns : goal.returns
returns c = record { unique = firing_unique; equivalent = fired_if_equivalent }
