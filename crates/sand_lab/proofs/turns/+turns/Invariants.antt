use Rattle.std.proofs.Common.{◌+◌, ◌*◌, length}
use Rattle.sand_lab.proofs.turns.+turns.Given as goal

abbrev pub decreases-take_turns_together : goal.decreases-take_turns_together
decreases-take_turns_together g l = 2 * length l.members.now + 1

abbrev pub decreases-take_turns_in_halves : goal.decreases-take_turns_in_halves
decreases-take_turns_in_halves g l = 2 * (length l.front.now + length l.back.now)

abbrev pub decreases-take_turns_in_halves-join_mut+arg2 : goal.decreases-take_turns_in_halves-join_mut+arg2
decreases-take_turns_in_halves-join_mut+arg2 g l = 2 * length l.front.now + 1

abbrev pub decreases-take_turns_in_halves-join_mut+arg3 : goal.decreases-take_turns_in_halves-join_mut+arg3
decreases-take_turns_in_halves-join_mut+arg3 g l = 2 * length l.back.now + 1
