use Rattle.sand_trees.specs.Depths.{AreHeightsBefore}
use Rattle.sand_trees.proofs.bijection.write_some.Given as goal

abbrev pub invariant-loop-site : goal.invariant-loop-site
invariant-loop-site l = AreHeightsBefore l.site l.fn.shape l.directions l.depths l.heights
