-- A burning order has as many sites as the grid (`order_fits`), and a forbidden set at most as many (`set_fits`): so
-- there is a place for each site found.
use Rattle.sand_c.proofs.Common.{true, false, ap, arith, rules, sites, PileView, height_of}
use Rattle.sand_c.proofs.Found.{burning, order_fits, set_fits}
use Rattle.sand_c.proofs.burning.burned_in.Goals as goal

pub returns-in-Recurrent-clause-burned : goal.returns-in-Recurrent-clause-burned
returns-in-Recurrent-clause-burned c =
    let pile = c.in-Ok.pile in
    let is = rw c.in-Recurrent.is at c.in_ok-order.ensures.burned in
    let all = order_fits pile.grid (height_of pile) c.in-Recurrent.order.items is.1 in
    burning _ pile c.burn.result c.in_ok-order.field-0 _ true (search rules) c.in_ok-order.was c.burn.ensures.unstable
    is (omega arith)

pub returns-clause-burned : goal.returns-clause-burned
returns-clause-burned c =
    let pile = c.in-Ok.pile in
    let is = rw c.in-Forbidden.is at c.in_ok-order.ensures.burned in
    burning _ pile c.burn.result c.in_ok-order.field-0 _ false (search rules) c.in_ok-order.was c.burn.ensures.unstable
    is (set_fits pile.grid (height_of pile) c.in-Forbidden.set.items is)

pub returns-clause-room : goal.returns-clause-room
returns-clause-room c =
    let few = set_fits c.in-Ok.pile.grid (height_of c.in-Ok.pile) c.in-Forbidden.set.items
    (rw c.in-Forbidden.is at c.in_ok-order.ensures.burned) in
    omega (arith, few, c.in_ok-shape.ensures.places, ap (λ (p : PileView). sites p.grid) c.in-Ok.ensures.made)
