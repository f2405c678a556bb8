-- All sites of a recurrent pile burn, each as soon as it may: so its burning times are layers (`layers_of_times`).
use Rattle.std.proofs.Common.{◌∙◌}
use Rattle.sand_trees.proofs.Times.{layers_of_times}
use Rattle.sand_trees.proofs.bijection.tree_of_pile.Goals as goal

pub directions_of-requires-clause-layers : goal.directions_of-requires-clause-layers
directions_of-requires-clause-layers c =
    let grid = c.in_ok-lattice.ensures ∙ c.shape.ensures.value in
    rw (grid, c.heights-heights.ensures.value, c.deref.ensures.value)
    (layers_of_times c.pile-pile.result.now.grid _ _ c.in-Ok.ensures.times
    (rw c.pile-pile.ensures.value c.pile-pile.ensures.recurrent))
