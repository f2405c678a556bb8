use Rattle.sand_trees.proofs.OneToOne.{each_pile, each_tree}
use Rattle.sand_trees.proofs.laws.is_bijection.Goals as goal

pub returns : goal.returns
returns c = record {
  piles = each_pile;
  trees = each_tree;
}
