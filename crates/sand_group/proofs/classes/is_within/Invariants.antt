use Rattle.sand_group.proofs.Common.{◌≡◌, ◌≤◌, take, whole_grains}
use Rattle.sand_group.proofs.classes.is_within.Given as goal

abbrev pub invariant-loop-height : goal.invariant-loop-height
invariant-loop-height l = (l.grains ≡ whole_grains (take l.height-index l.heights)) × (l.grains ≤ l.limit)
