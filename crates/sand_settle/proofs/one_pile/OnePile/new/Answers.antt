use Rattle.std.proofs.Common.{arith}
use Rattle.sand_settle.proofs.Drops.{paid_start, after_start}
use Rattle.sand_settle.proofs.one_pile.OnePile.new.Goals as goal

pub invariant_of-result : goal.invariant_of-result
invariant_of-result c = record {
  paid = paid_start c.grains.ensures.pile c.in_ok-settled.ensures.record;
  same = tt;
  made = λ l. absurd (omega arith);
}

pub returns-clause-settled : goal.returns-clause-settled
returns-clause-settled c = after_start c.grains.ensures.pile c.in_ok-settled.ensures.record
