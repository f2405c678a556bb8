use Rattle.std.proofs.Common.{arith}
use Rattle.sand_settle.proofs.Drops.{grains_kept}
use Rattle.sand_settle.proofs.laws.grains_are_kept.Goals as goal

pub returns : goal.returns
returns c g s r is = let kept = grains_kept is in omega arith
