-- From below - above and a lift of 3 the recurrent pile of 3 - p is reached, and 3 less it is superstable
-- (`superstable_from_reached`). A class has one such pile, so heights are superstable if and only if they are it
-- (`superstable_if_itself`).
use Rattle.sand_group.proofs.Common.{List, ℕ, ◌≤◌, ◌∙◌, ap, subst, arith, length, get_or, sum_by-le, All-from_get_or, whole, IsGrid, PileView, height_of, odometer_of, limit_has_room, settled_stable, integer_at, IsSuperstableOf}
use Rattle.sand_group.proofs.ReachedIsRecurrent.{superstable_from_reached}
use Rattle.sand_group.proofs.SuperstableHeights.{superstable_if_itself}
use Rattle.sand_group.proofs.superstables.superstable.Goals.{After-from_vec}
use Rattle.sand_group.proofs.superstables.superstable.Goals as goal

-- a settled pile is stable
pub three_less-requires : goal.three_less-requires
three_less-requires c =
    let last = c.in_ok-reached.reached.last in
    let made = c.pile.ensures.settled.1 in
    let stable = settled_stable last.pile.grid c.pile.ensures.settled.0 (odometer_of last) (height_of last.pile) made.settled in
    All-from_get_or (λ h. h ≤ 3) c.heights.result.now 0 (λ i l.
    let same = ap (λ (xs : List ℕ). get_or xs i 0) c.heights.ensures.value in
    let pile = ap (λ (v : PileView). height_of v i) c.pile.ensures.value in
    omega (
      arith,
      same,
      pile,
      stable.low i (omega (
        arith,
        ap (λ (xs : List ℕ). length xs) c.heights.ensures.value,
        ap (λ (v : PileView). length v.heights) c.pile.ensures.value,
        made.heights_each,
      )),
    ))

pub from_vec-requires-clause-limit : goal.from_vec-requires-clause-limit
from_vec-requires-clause-limit c =
    let is = rw c.in_ok-above.ensures.below_grid at c.in_ok-reached.ensures in
    let grid = ap (λ (v : PileView). v.grid) c.pile.ensures.value ∙ is.last.record_of.grid in
    omega (
      arith,
      sum_by-le (λ h. h) 3 c.in_ok-rests.rests.items c.in_ok-rests.ensures.low,
      c.in_ok-rests.ensures.len,
      ap (λ (xs : List ℕ). length xs) c.heights.ensures.value,
      ap (λ (v : PileView). length v.heights) c.pile.ensures.value,
      is.last.record_of.heights_each,
      limit_has_room c.args.shape (subst IsGrid grid c.heights.ensures.pile.grid),
    )

found : (c : After-from_vec) → IsSuperstableOf c.args.shape (integer_at c.args.heights.now) c.from_vec.result
found c =
    let is = rw c.in_ok-above.ensures.below_grid at c.in_ok-reached.ensures in
    superstable_from_reached c.args.shape (integer_at c.args.heights.now) (height_of c.in_ok-above.above)
    (height_of c.in_ok-above.below) c.in_ok-reached.reached c.heights.result.now c.in_ok-rests.rests.items
    c.from_vec.result is c.in_ok-above.ensures.difference
    (omega (
      arith,
      ap (λ (xs : List ℕ). length xs) c.heights.ensures.value,
      ap (λ (v : PileView). length v.heights) c.pile.ensures.value,
      is.last.record_of.heights_each,
    ))
    (λ i. omega (
      arith,
      ap (λ (xs : List ℕ). get_or xs i 0) c.heights.ensures.value,
      ap (λ (v : PileView). height_of v i) c.pile.ensures.value,
    ))
    c.in_ok-rests.ensures.len c.in_ok-rests.ensures.rests c.from_vec.ensures

pub returns-clause-superstable : goal.returns-clause-superstable
returns-clause-superstable c = found (goal.at.returns-clause-superstable c).After-from_vec

pub returns-clause-itself : goal.returns-clause-itself
returns-clause-itself c =
    let done = found (goal.at.returns-clause-itself c).After-from_vec in
    superstable_if_itself c.args.shape (integer_at c.args.heights.now) (whole (height_of c.from_vec.result))
    done.superstable done.equivalent
