use Rattle.sand_group.proofs.OperationsSettle.{identity_is_settled}
use Rattle.sand_group.proofs.OperationsOnHeights.{recurrent_there}
use Rattle.sand_group.proofs.group.settled_identity.Goals as goal

pub invariant_of-result : goal.invariant_of-result
invariant_of-result c =
    let done = c.in_ok-settled.ensures.settled in
    recurrent_there done
    (identity_is_settled c.args.shape _ done.odometer _ c.in_ok-heights.ensures.surplus done.settled).recurrent

pub returns-clause-identity : goal.returns-clause-identity
returns-clause-identity c =
    let done = c.in_ok-settled.ensures.settled in
    identity_is_settled c.args.shape _ done.odometer _ c.in_ok-heights.ensures.surplus done.settled
