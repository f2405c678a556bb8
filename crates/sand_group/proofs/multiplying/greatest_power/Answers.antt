use Rattle.sand_group.proofs.Common.{arith}
use Rattle.std.proofs.Math.Nat.{mul-le-mul_left, mul-div-le}
use Rattle.sand_group.proofs.Multiples.{power_above}
use Rattle.sand_group.proofs.multiplying.greatest_power.Goals as goal

pub powers-preserved : goal.powers-preserved
powers-preserved c =
    let power = c.powers.power in
    let old = c.powers.invariant in
    record {
      power = power_above c.args.base power old.power;
      some = omega (arith, old.some, mul-le-mul_left power c.requires.base);
      within = omega (arith, mul-le-mul_left power c.powers-test.true, mul-div-le c.args.n power);
    }
