use Rattle.sand_trees.proofs.OneToOne.{depths_are_times}
use Rattle.sand_trees.proofs.Depths.{depth_limit, depths_determined, tree_partial}
use Rattle.sand_trees.proofs.laws.depths_are_times.Goals as goal

pub returns : goal.returns
returns c = record {
  times = depths_are_times;
  determined = depths_determined;
  limit = λ g dir d tree. depth_limit g dir d (tree_partial g dir d tree);
}
