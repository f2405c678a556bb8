-- Each round topples only new places, so the wave grows as a number until nothing is due.
use Rattle.sand_tiles.proofs.Common.{◌-◌, ◌^◌, IsVisit}
use Rattle.sand_tiles.proofs.visiting.visit.Given as goal

abbrev pub invariant-rounds : goal.invariant-rounds
invariant-rounds l = record {
  visit : IsVisit l.fn.tile l.now l.free l.start;
}

abbrev pub decreases-rounds : goal.decreases-rounds
decreases-rounds l = 2 ^ 64 - l.now.wave
