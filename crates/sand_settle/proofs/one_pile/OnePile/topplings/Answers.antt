use Rattle.sand_settle.proofs.Common.{ap, arith, SettledView}
use Rattle.sand_settle.proofs.Drops.{paid_few}
use Rattle.sand_settle.proofs.one_pile.OnePile.topplings.Goals as goal

pub returns-clause-bound : goal.returns-clause-bound
returns-clause-bound c =
    let same = ap (λ (r : SettledView). r.topplings) c.settled.ensures.value in
    omega (arith, c.topplings.ensures, paid_few c.settled.ensures.paid)
