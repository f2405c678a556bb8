use Rattle.sand_settle.proofs.Common.{◌≡◌, ◌+◌, ◌≤◌, ◌++◌, length, drop, get_or, sites, topplings, Lists, may_topple, Advances}
use Rattle.sand_settle.proofs.queue.topple_generation.Given as goal

abbrev pub invariant-loop-position : goal.invariant-loop-position
invariant-loop-position l = record {
  heights_each : length l.heights ≡ sites l.lattice;
  counts_each : length l.counts ≡ sites l.lattice;
  advances : Advances l.lattice (λ j. get_or l.initial.counts j 0)
      (λ j. get_or l.initial.heights j 0) (λ j. get_or l.counts j 0) (λ j. get_or l.heights j 0);
  each_topples : topplings l.lattice (λ j. get_or l.initial.counts j 0) + l.position
      ≤ topplings l.lattice (λ j. get_or l.counts j 0);
  waiting : Lists (sites l.lattice) (may_topple (λ j. get_or l.heights j 0))
      (drop l.position l.generation.items ++ l.next.items);
  room : l.next.room ≡ l.fn.next.room;
}
