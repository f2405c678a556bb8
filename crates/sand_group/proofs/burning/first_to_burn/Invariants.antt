use Rattle.sand_group.proofs.Common.{◌≤◌, length, vec_capacity, ListsBurning}
use Rattle.sand_group.proofs.burning.first_to_burn.Given as goal

abbrev pub invariant-loop-site : goal.invariant-loop-site
invariant-loop-site l = record {
  all : ListsBurning l.site l.heights l.unburnt l.burnt.items;
  room : length l.heights ≤ vec_capacity l.burnt;
}
