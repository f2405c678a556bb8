use Rattle.std.proofs.Common.{◌≡◌, ◌≤◌, sum, take}
use Rattle.sand_model.proofs.pile.Pile.new.Given as goal
use Rattle.sand_model.specs.Piles.{most_grains_on}

abbrev pub invariant-loop-height : goal.invariant-loop-height
invariant-loop-height l = (l.grains ≡ sum (take l.height-index l.heights)) × (l.grains ≤ most_grains_on l.shape)
