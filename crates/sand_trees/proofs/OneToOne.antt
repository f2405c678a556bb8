-- Each recurrent pile is the pile of exactly one tree, and each tree has exactly one pile.
use Rattle.sand_trees.proofs.Common.{ℕ, ◌+◌, ◌-◌, arith, Grid}
use Rattle.sand_trees.specs.Trees.{edges_below, edges_passed, IsPileOfTree}
use Rattle.sand_trees.specs.Laws.{EachPileHasOneTree, EachTreeHasOnePile, DepthsAreBurningTimes}
use Rattle.sand_trees.proofs.Edges.{edges_at_most_four}
use Rattle.sand_trees.proofs.Layers.{tree_layers, tree_recurrent, one_tree}
use Rattle.sand_trees.proofs.Picks.{direction_at, tree_exists}
use Rattle.sand_trees.proofs.Times.{times_exist, layers_of_times, times_of_layers}

pub each_pile : EachPileHasOneTree
each_pile g s recurrent =
    let times = times_exist g s recurrent in
    let found = tree_exists g s times.0 (layers_of_times g s times.0 times.1 recurrent)
    (λ i l. recurrent.stable.low i l) in (
      direction_at g s times.0,
      times.0,
      found.0,
      found.1,
      λ way height tree pile i l.
          let same = one_tree g way (direction_at g s times.0) height times.0 s tree found.0 pile found.1 i l in
          (same.0, same.1),
    )

-- the heights of the pile of a tree
pile_at : Grid → (ℕ → ℕ) → (ℕ → ℕ) → ℕ → ℕ
pile_at g dir d i = 4 + edges_passed g d i (dir i) - edges_below g d i (d i)

pile_exists : (g : Grid) (dir d : ℕ → ℕ) → IsPileOfTree g dir d (pile_at g dir d)
unfolding pile_at
pile_exists g dir d = record { each = λ i l. omega (arith, edges_at_most_four g d i (d i)) }

pub each_tree : EachTreeHasOnePile
each_tree g dir d tree = (
  pile_at g dir d,
  tree_recurrent g dir d (pile_at g dir d) tree (pile_exists g dir d),
  pile_exists g dir d,
  λ t pile i l. omega (arith, pile.each i l, (pile_exists g dir d).each i l),
)

pub depths_are_times : DepthsAreBurningTimes
depths_are_times g dir d s tree pile =
    times_of_layers g s d (tree_layers g dir d s tree pile) (λ j l. omega (arith, tree.step j l))
