-- 2d - c is equivalent to -c, and at least 3 at each site, so it settles to the inverse (`inverse_is_settled`).
use Rattle.sand_group.proofs.Common.{◌-◌, ◌*◌, get_or, slice_index, height_of, IsInverse, SettlesTo, IsSurplus}
use Rattle.sand_group.proofs.OperationsSettle.{inverse_is_settled}
use Rattle.sand_group.proofs.OperationsOnHeights.{difference_settles, recurrent_there}
use Rattle.sand_group.proofs.group.inverse.Goals.{In_ok-settled}
use Rattle.sand_group.proofs.group.inverse.Goals as goal

surplus_is : (c : In_ok-settled) → IsSurplus c.c.inside.pile.grid (slice_index c.in_ok-surplus.surplus.items)
surplus_is c = rw (← c.shape-shape.ensures.value) c.in_ok-surplus.ensures.surplus

settles : (c : In_ok-settled) → SettlesTo c.c.inside.pile.grid
    (λ i. 2 * get_or c.in_ok-surplus.surplus.items i 0 - height_of c.c.inside.pile i) c.in_ok-settled.field-0
settles c = difference_settles c.shape-shape.result c.c.inside.pile c.in_ok-settled.field-0
    c.heights.result.now c.deref.result.now c.in_ok-surplus.surplus.items c.in_ok-heights.heights.items
    c.shape-shape.ensures.value c.shape-shape.ensures.pile c.heights.ensures.value
    c.deref.ensures.value c.in_ok-heights.ensures.differences c.in_ok-settled.ensures.settled

inverts : (c : In_ok-settled)
    → IsInverse c.c.inside.pile.grid (height_of c.c.inside.pile) (height_of c.in_ok-settled.field-0)
inverts c = inverse_is_settled c.c.inside.pile.grid (height_of c.c.inside.pile) _ (settles c).odometer _
    c.c.invariant (surplus_is c) (settles c).settled

pub invariant_of-result : goal.invariant_of-result
invariant_of-result c =
    let at = (goal.at.invariant_of-result c).In_ok-settled in
    recurrent_there (settles at) (inverts at).recurrent

pub returns-clause-settled : goal.returns-clause-settled
returns-clause-settled c =
    let at = (goal.at.returns-clause-settled c).In_ok-settled in
    rw (← c.c.view_is) (slice_index c.in_ok-surplus.surplus.items, surplus_is at, settles at)

pub returns-clause-inverse : goal.returns-clause-inverse
returns-clause-inverse c = rw (← c.c.view_is) (inverts (goal.at.returns-clause-inverse c).In_ok-settled)
