-- No height that is settled last is over 18, far below the limit of a pile. What is proved of lists holds of the
-- piles.
use Rattle.sand_group.proofs.Common.{List, ℕ, ap, arith, length, get_or, slice_index, sum_by-le, PileView, height_of, most_grains_on, limit_has_room}
use Rattle.sand_group.proofs.reaching.reach.Goals as goal

pub from_vec-requires-clause-limit : goal.from_vec-requires-clause-limit
from_vec-requires-clause-limit c = omega (
  arith,
  sum_by-le (λ h. h) 18 c.in_ok-heights.heights.items c.in_ok-heights.ensures.low,
  c.in_ok-heights.ensures.len,
  ap (λ (xs : List ℕ). length xs) c.heights.ensures.value,
  ap (λ (v : PileView). length v.heights) c.pile.ensures.value,
  c.in_ok-plus.ensures.record_of.heights_each,
  ap most_grains_on c.shape-shape.ensures.value,
  limit_has_room c.args.p.now.grid c.shape-shape.ensures.pile.grid,
)

pub returns : goal.returns
returns c = record {
  plus = c.in_ok-plus.ensures;
  minus = rw c.requires.one_grid at c.in_ok-minus.ensures;
  full = rw c.shape-shape.ensures.value at c.in_ok-full.ensures;
  start = slice_index c.in_ok-heights.heights.items;
  start_is = λ i l. omega (
    arith,
    c.in_ok-heights.ensures.each i (omega (
      arith,
      l,
      ap (λ (xs : List ℕ). length xs) c.heights.ensures.value,
      ap (λ (v : PileView). length v.heights) c.pile.ensures.value,
      c.in_ok-plus.ensures.record_of.heights_each,
    )),
    ap (λ (xs : List ℕ). get_or xs i 0) c.heights.ensures.value,
    ap (λ (xs : List ℕ). get_or xs i 0) c.heights-2.ensures.value,
    ap (λ (xs : List ℕ). get_or xs i 0) c.heights-3.ensures.value,
    ap (λ (v : PileView). height_of v i) c.pile.ensures.value,
    ap (λ (v : PileView). height_of v i) c.pile-2.ensures.value,
    ap (λ (v : PileView). height_of v i) c.pile-3.ensures.value,
  );
  last = rw (c.from_vec.ensures, c.shape-shape.ensures.value) at c.in_ok-last.ensures;
}
