use Rattle.sand_fronts.proofs.Common.{◌≡◌, ◌+◌, length, slice_index, in_sets}
use Rattle.sand_fronts.specs.Reaching.{spot_of}
use Rattle.sand_fronts.proofs.Reached.{SetsRead}
use Rattle.sand_fronts.proofs.extent.take_all.Given as goal

abbrev pub invariant-tiles : goal.invariant-tiles
invariant-tiles l = record {
  marks_each : length l.marks.sets ≡ length l.fn.marks.sets;
  read : SetsRead l.fn.shape (spot_of l.fn.shape l.site) (slice_index l.fn.marks.sets) (slice_index l.marks.sets)
      l.extent.reach;
  so_far : l.extent.area + in_sets (length l.fn.marks.sets) (slice_index l.marks.sets)
      ≡ in_sets (length l.fn.marks.sets) (slice_index l.fn.marks.sets);
}

abbrev pub decreases-tiles : goal.decreases-tiles
decreases-tiles l = length l.marks.tiles
