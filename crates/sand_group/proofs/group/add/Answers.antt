use Rattle.sand_group.proofs.OperationsOnHeights.{recurrent_there, sum_settles}
use Rattle.sand_group.proofs.group.add.Goals as goal

pub invariant_of-result : goal.invariant_of-result
invariant_of-result c =
    let done = c.in_ok-settled_together.ensures.settled in
    recurrent_there done (sum_settles _ c.a.invariant done).recurrent

pub returns-clause-settled : goal.returns-clause-settled
returns-clause-settled c = rw (← c.a.view_is, ← c.b.view_is) c.in_ok-settled_together.ensures.settled

pub returns-clause-sum : goal.returns-clause-sum
returns-clause-sum c =
    rw (← c.a.view_is, ← c.b.view_is) (sum_settles _ c.a.invariant c.in_ok-settled_together.ensures.settled)
