-- The four places are the neighbours and what is outside the grid (`four_places`). At each at most one site joins the
-- list (`joins_more`).
use Rattle.sand_settle.proofs.Common.{◌*◌, ap, arith, joins_more}
use Rattle.sand_model.proofs.Flow.{four_places}
use Rattle.sand_settle.proofs.spreading.deliver_four.Goals as goal

pub returns-clause-each : goal.returns-clause-each
returns-clause-each c g site e inside j l =
    let around = ap (λ m. c.args.times * m) (four_places g site j c.args.around e inside l) in
    omega (
      arith,
      c.deliver.ensures.each j,
      c.deliver-2.ensures.each j,
      c.deliver-3.ensures.each j,
      c.deliver-4.ensures.each j,
    )

pub returns-clause-joins : goal.returns-clause-joins
returns-clause-joins c =
    let two = joins_more c.deliver.ensures.joins (rw c.deliver.auto.heights at c.deliver-2.ensures.joins) in
    joins_more (joins_more two (rw (c.deliver-2.auto.heights, c.deliver.auto.heights) at c.deliver-3.ensures.joins))
    (rw (c.deliver-3.auto.heights, c.deliver-2.auto.heights, c.deliver.auto.heights) at c.deliver-4.ensures.joins)
