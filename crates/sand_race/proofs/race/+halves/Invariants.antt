use Rattle.std.proofs.Common.{◌+◌, ◌*◌, length}
use Rattle.sand_race.proofs.race.+halves.Given as goal

abbrev pub decreases-drop_lists : goal.decreases-drop_lists
decreases-drop_lists g l = 2 * length l.lists.now + 1

abbrev pub decreases-join+arg2 : goal.decreases-join+arg2
decreases-join+arg2 g l = 2 * length l.left.now + 2

abbrev pub decreases-join+arg3 : goal.decreases-join+arg3
decreases-join+arg3 g l = 2 * length l.right.now + 2
