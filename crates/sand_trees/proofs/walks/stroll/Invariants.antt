use Rattle.std.proofs.Common.{◌<◌, length}
use Rattle.sand_trees.proofs.walks.stroll.Given as goal

abbrev pub invariant-loop-left : goal.invariant-loop-left
invariant-loop-left l = l.here < length l.cells
