-- The heights are lent as a slice and come back as the whole vector (`take_at`), and are the same in 64 bits. If all are
-- below 4, they are those of a tree (`tree_of_heights`), and those of a tree are all below 4 (`no_tree`).
use Rattle.sand_trees.proofs.Common.{arith, ap, drop, length, slice_index, sum, take_at, ◌∙◌}
use Rattle.sand_trees.proofs.Heights.{few_heights, no_tree, tree_of_heights}
use Rattle.sand_trees.proofs.bijection.pile_on.Goals as goal

pub from_vec-pile-requires-clause-limit : goal.from_vec-pile-requires-clause-limit
from_vec-pile-requires-clause-limit c =
    let heights = c.write_heights.new.heights in
    let back = take_at heights (drop (length heights) c.in_ok-heights.heights.items) c.in_ok-heights.heights.len
    (omega (arith, c.write_heights.auto.heights, c.deref_mut.ensures.len)) in
    let same = c.in_ok-widened.ensures ∙ c.deref.ensures.value ∙ back in
    let few = few_heights c.args.shape _ _ heights c.sites.ensures.sides c.write_heights.ensures.heights_each
    c.write_heights.ensures.each in
    omega (arith, ap sum same)

pub returns-then-not-is_stable-clause-pile : goal.returns-then-not-is_stable-clause-pile
returns-then-not-is_stable-clause-pile c =
    let heights = c.write_heights.new.heights in
    let back = take_at heights (drop (length heights) c.in_ok-heights.heights.items) c.in_ok-heights.heights.len
    (omega (arith, c.write_heights.auto.heights, c.deref_mut.ensures.len)) in
    let same = c.in_ok-widened.ensures ∙ c.deref.ensures.value ∙ back in
    let stable = rw (c.from_vec-pile.ensures, same) at c.is_stable.ensures in
    no_tree c.args.shape _ _ (slice_index heights) c.write_heights.ensures.each
    (λ low. let is = stable.1 low in grind (arith, c.if-not-is_stable.true))

pub known-requires : goal.known-requires
known-requires c =
    let heights = c.write_heights.new.heights in
    let back = take_at heights (drop (length heights) c.in_ok-heights.heights.items) c.in_ok-heights.heights.len
    (omega (arith, c.write_heights.auto.heights, c.deref_mut.ensures.len)) in
    let same = c.in_ok-widened.ensures ∙ c.deref.ensures.value ∙ back in
    let stable = rw (c.from_vec-pile.ensures, same) at c.is_stable.ensures in
    rw (c.from_vec-pile.ensures, same)
    (tree_of_heights c.args.shape _ _ (slice_index heights) c.write_heights.ensures.each
    (stable.0 (grind (arith, c.if-not-is_stable.false)))).2

pub returns-clause-pile : goal.returns-clause-pile
returns-clause-pile c =
    let heights = c.write_heights.new.heights in
    let back = take_at heights (drop (length heights) c.in_ok-heights.heights.items) c.in_ok-heights.heights.len
    (omega (arith, c.write_heights.auto.heights, c.deref_mut.ensures.len)) in
    let same = c.in_ok-widened.ensures ∙ c.deref.ensures.value ∙ back in
    let stable = rw (c.from_vec-pile.ensures, same) at c.is_stable.ensures in
    rw (c.known.ensures, c.from_vec-pile.ensures, same)
    (tree_of_heights c.args.shape _ _ (slice_index heights) c.write_heights.ensures.each
    (stable.0 (grind (arith, c.if-not-is_stable.false)))).1
