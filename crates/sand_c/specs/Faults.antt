-- The numbers of the faults, the same as in the lower crates.
use Rattle.std.specs.Prelude.{ℕ}
use Rattle.sand_group.specs.declared.faults.GroupFault.{GroupFault}
use Rattle.sand_group.specs.declared.faults.GroupFault.TheVariants as group
use Rattle.sand_model.specs.declared.faults.ShapeFault.{ShapeFault}
use Rattle.sand_model.specs.declared.faults.ShapeFault.TheVariants as shape
use Rattle.sand_trees.specs.declared.faults.TreeFault.{TreeFault}
use Rattle.sand_trees.specs.declared.faults.TreeFault.TheVariants as tree
use Rattle.sand_c.specs.declared.faults.Fault.{Fault}
use Rattle.sand_c.specs.declared.faults.Fault.TheVariants.{Side, Length, TooManyGrains, Memory, Full, Unstable, NotRecurrent, Shapes, TooMuch, Rows, Apart, Spent, Missing, Taken, Narrow, NoSite, Empty, OtherPile, NotTree}

abbrev pub number_of : Fault → ℕ
number_of Side = 1
number_of Length = 2
number_of TooManyGrains = 3
number_of Memory = 4
number_of Full = 6
number_of Unstable = 7
number_of NotRecurrent = 8
number_of Shapes = 9
number_of TooMuch = 10
number_of Rows = 11
number_of Apart = 12
number_of Spent = 13
number_of Missing = 14
number_of Taken = 17
number_of Narrow = 24
number_of NoSite = 25
number_of Empty = 26
number_of OtherPile = 27
number_of NotTree = 28

abbrev pub of_shape : ShapeFault → Fault
of_shape shape.Side = Side
of_shape shape.Narrow = Narrow

abbrev pub of_group : GroupFault → Fault
of_group group.Unstable = Unstable
of_group group.NotRecurrent = NotRecurrent
of_group group.Shapes = Shapes
of_group (group.Memory refused) = Memory

abbrev pub of_tree : TreeFault → Fault
of_tree tree.Length = Length
of_tree tree.NotTree = NotTree
of_tree (tree.Memory refused) = Memory
