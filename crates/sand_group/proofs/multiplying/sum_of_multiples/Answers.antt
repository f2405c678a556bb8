-- The heights are at most 3 * (n + m), which is within the limit (`few_copies`, `few_if_low`), and settle to a recurrent pile
-- (`multiples_settle`).
use Rattle.sand_group.proofs.Common.{ap, ◌≡◌, ◌∙◌, ◌+◌, ◌*◌, List, ℕ, length, pos, sites, height_of, Represents, SettlesTo}
use Rattle.sand_group.proofs.OperationsOnHeights.{combined_settles, recurrent_there}
use Rattle.sand_group.proofs.Multiples.{few_copies, few_if_low, multiples_settle}
use Rattle.sand_group.proofs.multiplying.sum_of_multiples.Goals.{After-into_pile}
use Rattle.sand_group.proofs.multiplying.sum_of_multiples.Goals as goal

pub combined-requires-clause-few : goal.combined-requires-clause-few
combined-requires-clause-few c =
    few_copies c.a.inside.pile.grid (c.args.n + c.args.m) c.shape-shape.ensures.pile.grid (rw c.a.view_is c.requires.few)

pub from_vec-requires-clause-limit : goal.from_vec-requires-clause-limit
from_vec-requires-clause-limit c =
    let len : length c.in_ok-heights.heights.items ≡ sites c.a.inside.pile.grid =
    c.in_ok-heights.ensures.len ∙ ap (λ (xs : List ℕ). length xs) c.heights.ensures.value ∙ c.heights.ensures.pile.len in
    rw c.shape-shape.ensures.value (few_if_low c.a.inside.pile.grid (3 * (c.args.n + c.args.m)) c.in_ok-heights.heights.items
    len c.in_ok-heights.ensures.low (rw c.a.view_is c.requires.few))

settles : (c : After-into_pile) → SettlesTo c.a.inside.pile.grid
    (λ i. c.args.n * height_of c.a.inside.pile i + c.args.m * height_of c.b.inside.pile i) c.into_pile.result
settles c = combined_settles c.shape-shape.result c.a.inside.pile c.b.inside.pile c.from_vec.result c.into_pile.result
    c.args.n c.args.m c.heights.result.now c.heights-2.result.now c.in_ok-heights.heights.items c.in_ok-settled.settled
    c.shape-shape.ensures.value c.shape-shape.ensures.pile c.heights.ensures.value c.heights-2.ensures.value
    c.in_ok-heights.ensures.each c.from_vec.ensures c.in_ok-settled.ensures.record c.into_pile.ensures

represents : (c : After-into_pile) → Represents c.a.inside.pile.grid
    (λ i. pos (c.args.n * height_of c.a.inside.pile i + c.args.m * height_of c.b.inside.pile i))
    (height_of c.into_pile.result)
represents c =
    let done = settles c in
    multiples_settle c.a.inside.pile.grid c.args.n c.args.m (height_of c.a.inside.pile) (height_of c.b.inside.pile)
    done.odometer (height_of c.into_pile.result) c.requires.some c.a.invariant done.settled

pub invariant_of-result : goal.invariant_of-result
invariant_of-result c =
    let at = (goal.at.invariant_of-result c).After-into_pile in
    recurrent_there (settles at) (represents at).recurrent

pub returns-clause-sum : goal.returns-clause-sum
returns-clause-sum c =
    rw (← c.a.view_is, ← c.b.view_is) (represents (goal.at.returns-clause-sum c).After-into_pile)
