-- The sum so far is that for the digits read, n / unit (`next_digit`, `digit_of`), and the unit is a power of the base
-- (`power_below`).
use Rattle.sand_group.proofs.Common.{◌/◌, ◌∙◌, ap, arith, sites, height_of}
use Rattle.sand_group.proofs.Multiples.{power_below, next_digit, digit_of}
use Rattle.sand_group.proofs.multiplying.multiple.Goals as goal

pub nonzero_div-n-in-digits : goal.nonzero_div-n-in-digits
nonzero_div-n-in-digits c =
    let below = power_below c.base_on-base.result c.digits.unit (omega (arith, c.base_on-base.ensures.some))
    c.digits.invariant.power c.digits-test.true in
    below.1

pub digits-preserved : goal.digits-preserved
digits-preserved c =
    let base = c.base_on-base.result in
    let old = c.digits.invariant in
    let below = power_below base c.digits.unit (omega (arith, c.base_on-base.ensures.some)) old.power c.digits-test.true in
    record {
      power = below.0;
      some = below.1;
      grid = c.in_ok-sum-2.ensures.grid ∙ old.grid;
      len = c.in_ok-sum-2.ensures.len ∙ ap sites old.grid;
      multiple = next_digit c.args.c.now.grid c.digits.sum.grid _ _ _ _ (height_of c.args.c.now) (height_of c.digits.sum)
          (height_of c.in_ok-sum-2.sum) old.grid old.multiple c.in_ok-sum-2.ensures.sum
          (omega (arith, digit_of c.args.n base c.digits.unit (c.digits.unit / base) below.2));
    }
