use Rattle.sand_group.proofs.OperationsOnHeights.{settles_to_one, settles_in_parts}
use Rattle.sand_group.proofs.laws.settles_to_one_pile.Goals as goal

pub returns : goal.returns
returns c = record { unique = settles_to_one; parts = settles_in_parts }
