use Rattle.sand_group.proofs.Common.{◌≡◌, ◌-◌, ◌≤◌, [], length, slice_index, take, vec_len, vec_capacity, sites, ListsBurning, FireSpreadsFrom, CountsUnburnt}
use Rattle.sand_group.proofs.burning.burn_out.Given as goal

abbrev pub invariant-loop-head : goal.invariant-loop-head
invariant-loop-head l = record {
  len : length l.unburnt.items ≡ sites l.lattice;
  head : l.head ≤ vec_len l.burnt;
  counts : CountsUnburnt l.lattice (take l.head l.burnt.items) (slice_index l.unburnt.items);
  all : ListsBurning (sites l.lattice) l.heights l.unburnt.items l.burnt.items;
  room : sites l.lattice ≤ vec_capacity l.burnt;
  in_turn : FireSpreadsFrom l.lattice (slice_index l.heights) [] (take l.head l.burnt.items);
}

abbrev pub decreases-loop-head : goal.decreases-loop-head
decreases-loop-head l = sites l.lattice - l.head
