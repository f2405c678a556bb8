-- The numbers of this crate's faults.
use Rattle.std.specs.Prelude.{ℕ}
use Rattle.sand_trees.specs.declared.faults.TreeFault.{TreeFault}
use Rattle.sand_trees.specs.declared.faults.TreeFault.TheVariants.{Length, NotTree, Memory}

abbrev pub tree_fault_number : TreeFault → ℕ
tree_fault_number Length = 2
tree_fault_number NotTree = 28
tree_fault_number (Memory e) = 4
