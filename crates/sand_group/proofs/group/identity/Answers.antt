-- An identity that was guessed and shown is also what some d settles to, since there is only one (`identity_settles`).
use Rattle.sand_group.proofs.EmptiedIsIdentity.{identity_settles}
use Rattle.sand_group.proofs.group.identity.Goals as goal

pub invariant_of-result : goal.invariant_of-result
invariant_of-result c =
    let grid = rw c.in-Some.is at c.in_ok-pile.ensures.shape in
    let identity = rw c.in-Some.is at c.in_ok-pile.ensures.identity in
    rw grid identity.recurrent

pub returns-in-Some-clause-settled : goal.returns-in-Some-clause-settled
returns-in-Some-clause-settled c =
    let grid = rw c.in-Some.is at c.in_ok-pile.ensures.shape in
    let each = rw c.in-Some.is at c.in_ok-pile.ensures.len in
    let identity = rw c.in-Some.is at c.in_ok-pile.ensures.identity in
    identity_settles c.args.shape c.in-Some.pile grid each identity
