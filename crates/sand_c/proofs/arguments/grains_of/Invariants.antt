use Rattle.sand_c.proofs.Common.{◌≡◌, ◌≤◌, sum, take}
use Rattle.sand_c.proofs.arguments.grains_of.Given as goal

abbrev pub invariant-loop-height : goal.invariant-loop-height
invariant-loop-height l = (l.grains ≡ sum (take l.height-index l.heights)) × (l.grains ≤ l.limit)
