-- The flow into a site is the sum over its four places, and 0 from a place outside the grid (`flow_four`).
use Rattle.std.proofs.Common.{arith, get_or}
use Rattle.sand_model.proofs.Neighbours.{flow_four}
use Rattle.sand_certify.proofs.certificate.inflow_from.Goals as goal

pub returns-clause-value : goal.returns-clause-value
returns-clause-value c g site e =
    let four = flow_four g (λ j. get_or c.args.counts.now j 0) site in
    let up = rw e at c.value-up.ensures in
    let left = rw e at c.value-left.ensures in
    let right = rw e at c.value-right.ensures in
    let down = rw e at c.value-down.ensures in
    omega arith
