use Rattle.std.proofs.Common.{arith}
use Rattle.sand_group.proofs.laws.recurrent_by_site.Goals as goal

pub returns : goal.returns
returns c g s t same is = record {
  stable = record { low = λ i l. let low = is.stable.low i l in let e = same i l in omega arith };
  none = λ set forbidden. is.none set (record {
    some = forbidden.some;
    low = λ i l inside. let low = forbidden.low i l inside in let e = same i l in omega arith;
  });
}
