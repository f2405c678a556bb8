use Rattle.std.proofs.Common.{rules, ap, arith, length, IsSome}
use Rattle.sand_settle.proofs.choice.settle_by_claim.Goals as goal

pub returns : goal.returns
returns c =
    let counts = c.deref.ensures.value in
    let there : IsSome c.in_ok-heights.field-0 = rw c.in-Some-2.is (search rules) in
    let certificate = c.in_ok-heights.ensures.exactly.0 there in
    let settled = rw (c.in-Some-2.is, counts) at c.in_ok-heights.ensures.settled in
    let one_each = rw c.in-Some-2.is at c.in_ok-heights.ensures.len in
    record {
      heights_each = one_each;
      odometer_each = omega (arith, ap length counts, certificate.counts_each);
      settled = settled;
    }
