-- The four odometers make a firing vector that leads to the recurrent pile (`fired_to_recurrent`). Each is below 2^54,
-- so their sums fit (`few_topplings`). A recurrent pile is that of its class, and fires nothing
-- (`recurrent_fires_nothing`).
use Rattle.sand_group.proofs.Common.{height_of, integer_at, IsFiredToRecurrent}
use Rattle.sand_group.proofs.FiringVectors.{recurrent_fires_nothing}
use Rattle.sand_group.proofs.ReachedIsRecurrent.{few_topplings, fired_to_recurrent}
use Rattle.sand_group.proofs.classes.recurrent_by_firing.Goals.{After-into_pile}
use Rattle.sand_group.proofs.classes.recurrent_by_firing.Goals as goal

pub net_topplings-requires-clause-few_up : goal.net_topplings-requires-clause-few_up
net_topplings-requires-clause-few_up c =
    few_topplings _ _ _ c.odometers.result.now c.in_ok-plus.ensures.plus c.odometers.ensures.value

pub net_topplings-requires-clause-few_last : goal.net_topplings-requires-clause-few_last
net_topplings-requires-clause-few_last c =
    few_topplings _ _ _ c.odometers-2.result.now c.in_ok-plus.ensures.last c.odometers-2.ensures.value

pub net_topplings-requires-clause-few_down : goal.net_topplings-requires-clause-few_down
net_topplings-requires-clause-few_down c =
    few_topplings _ _ _ c.odometers-3.result.now c.in_ok-plus.ensures.minus c.odometers-3.ensures.value

pub net_topplings-requires-clause-few_full : goal.net_topplings-requires-clause-few_full
net_topplings-requires-clause-few_full c =
    few_topplings _ _ _ c.odometers-4.result.now c.in_ok-plus.ensures.full c.odometers-4.ensures.value

found : (c : After-into_pile)
    → IsFiredToRecurrent c.args.shape (integer_at c.args.heights.now) c.into_pile.result c.in_ok-firing.firing.items
found c =
    fired_to_recurrent c.args.shape (integer_at c.args.heights.now) (height_of c.in_ok-above.above)
    (height_of c.in_ok-above.below) c.in_ok-plus.field-0 c.into_pile.result c.in_ok-firing.firing.items
    c.odometers.result.now c.odometers-2.result.now c.odometers-3.result.now c.odometers-4.result.now
    (rw c.in_ok-above.ensures.above_grid at c.in_ok-plus.ensures) c.in_ok-above.ensures.difference c.into_pile.ensures
    c.odometers.ensures.value c.odometers-2.ensures.value c.odometers-3.ensures.value c.odometers-4.ensures.value
    c.in_ok-firing.ensures.len c.in_ok-firing.ensures.each

pub invariant_of-result : goal.invariant_of-result
invariant_of-result c = rw (found c).grid (found c).represents.recurrent

pub returns-clause-fired : goal.returns-clause-fired
returns-clause-fired c = found (goal.at.returns-clause-fired c).After-into_pile

pub returns-clause-itself : goal.returns-clause-itself
returns-clause-itself c d recurrent is =
    let done = found (goal.at.returns-clause-itself c).After-into_pile in
    recurrent_fires_nothing c.args.shape (integer_at c.args.heights.now) (integer_at c.in_ok-firing.firing.items)
    (height_of c.into_pile.result) d recurrent is done.represents done.fired
