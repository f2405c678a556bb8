use Rattle.sand_fronts.proofs.Common.{sum_below, bit}
use Rattle.sand_fronts.proofs.Reached.{Reads}
use Rattle.sand_fronts.proofs.reach.reach_in.Given as goal

abbrev pub invariant-places : goal.invariant-places
invariant-places l = record {
  reads : Reads l.shape l.from l.corner l.set l.rest l.reach l.far;
}

abbrev pub decreases-places : goal.decreases-places
decreases-places l = sum_below 64 (bit l.rest)
