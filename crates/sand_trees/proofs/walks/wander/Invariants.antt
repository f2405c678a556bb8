use Rattle.std.proofs.Common.{◌<◌, length}
use Rattle.sand_trees.proofs.walks.wander.Given as goal

abbrev pub invariant-loop : goal.invariant-loop
invariant-loop l = l.here < length l.cells
