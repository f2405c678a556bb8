-- A round may change one tile only, if nothing is due in the other. So it is the sum of the two waves that grows.
use Rattle.sand_tiles.proofs.Common.{◌+◌, ◌-◌, ◌^◌, IsVisit}
use Rattle.sand_tiles.proofs.visiting.visit_pair.Given as goal

abbrev pub invariant-rounds : goal.invariant-rounds
invariant-rounds l = record {
  one : IsVisit l.fn.one l.first l.free_one 0;
  two : IsVisit l.fn.two l.second l.free_two 0;
}

abbrev pub decreases-rounds : goal.decreases-rounds
decreases-rounds l = 2 ^ 65 - (l.first.wave + l.second.wave)
