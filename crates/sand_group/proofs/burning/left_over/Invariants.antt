use Rattle.sand_group.proofs.Common.{IsStrictlyIncreasing, ListsUnburnt}
use Rattle.sand_group.proofs.burning.left_over.Given as goal

abbrev pub invariant-loop-site : goal.invariant-loop-site
invariant-loop-site l = record {
  all : ListsUnburnt l.site l.heights l.unburnt l.left.items;
  ascending : IsStrictlyIncreasing l.left.items;
}
