use Rattle.std.proofs.Common.{◌≡◌, sum, take}
use Rattle.sand_model.proofs.pile.Pile.from_vec.Given as goal

abbrev pub invariant-loop-height : goal.invariant-loop-height
invariant-loop-height l = l.grains ≡ sum (take l.height-index l.height-items)
