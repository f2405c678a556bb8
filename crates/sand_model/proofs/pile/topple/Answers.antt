-- The heights are lent as a slice and come back as the whole vector (`take_at`). The pile's count of grains stays the
-- sum of its heights, since both fall by the places that are outside the grid.
use Rattle.sand_model.proofs.Common.{drop, length, arith, sum, ap, take_at}
use Rattle.sand_model.proofs.pile.topple.Goals as goal

pub overflow_sub-pile : goal.overflow_sub-pile
overflow_sub-pile c = omega (arith, c.pile.invariant.1, c.spread.ensures.total, ap sum c.deref_mut.ensures.value)

pub invariant_of-pile : goal.invariant_of-pile
invariant_of-pile c =
    let back = take_at c.spread.new.heights (drop (length c.spread.new.heights) c.pile.inside.heights.items)
    c.pile.inside.heights.len (omega (arith, c.deref_mut.ensures.len)) in
    rw back (
      record {
        grid = c.pile.invariant.0.grid;
        len = omega (arith, ap length c.deref_mut.ensures.value, c.pile.invariant.0.len);
        limit = omega (arith, c.spread.ensures.total, c.pile.invariant.0.limit, ap sum c.deref_mut.ensures.value);
      },
      omega (arith, c.pile.invariant.1, c.spread.ensures.total, ap sum c.deref_mut.ensures.value),
    )
