use Rattle.sand_group.proofs.Common.{ℕ, ◌≡◌, ◌-◌, ◌<◌, ◌≤◌, [], length, slice_index, take, vec_len, vec_capacity, sites, is_in, ListsBurning, FireSpreadsFrom, CountsUnburnt}
use Rattle.sand_group.specs.BurningTimes.{burns_within, AreTimesSoFar}
use Rattle.sand_group.proofs.burning_steps.times_of.Given as goal

abbrev pub invariant-loop-head : goal.invariant-loop-head
invariant-loop-head l = record {
  len : length l.unburnt.items ≡ sites l.lattice;
  times_each : length l.times.items ≡ sites l.lattice;
  head : l.head ≤ vec_len l.burnt;
  steps : l.step ≤ l.head;
  counts : CountsUnburnt l.lattice (take l.head l.burnt.items) (slice_index l.unburnt.items);
  all : ListsBurning (sites l.lattice) l.heights l.unburnt.items l.burnt.items;
  room : sites l.lattice ≤ vec_capacity l.burnt;
  in_turn : FireSpreadsFrom l.lattice (slice_index l.heights) [] (take l.head l.burnt.items);
  before : (i : ℕ) → i < sites l.lattice
      → is_in (take l.head l.burnt.items) i ≡ burns_within l.lattice (slice_index l.heights) l.step i;
  times : AreTimesSoFar l.lattice (slice_index l.heights) (slice_index l.times.items) l.step;
}

abbrev pub decreases-loop-head : goal.decreases-loop-head
decreases-loop-head l = sites l.lattice - l.head
