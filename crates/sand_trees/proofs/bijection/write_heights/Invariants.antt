use Rattle.sand_trees.specs.Depths.{AreHeightsBefore}
use Rattle.sand_trees.proofs.bijection.write_heights.Given as goal

abbrev pub invariant-loop-row : goal.invariant-loop-row
invariant-loop-row l = AreHeightsBefore l.done l.shape l.directions l.depths l.heights
