use Rattle.sand_settle.proofs.Common.{◌≡◌, ◌+◌, ◌≤◌, length, get_or, sites, topplings, weight, Lists, may_topple, Advances}
use Rattle.sand_settle.proofs.queue.topple_generations.Given as goal

abbrev pub invariant-generations : goal.invariant-generations
invariant-generations l = record {
  heights_each : length l.heights ≡ sites l.lattice;
  counts_each : length l.counts ≡ sites l.lattice;
  spent : l.budget ≤ l.left + topplings l.lattice (λ j. get_or l.counts j 0);
  advances : Advances l.lattice (λ j. get_or l.initial.counts j 0)
      (λ j. get_or l.initial.heights j 0) (λ j. get_or l.counts j 0) (λ j. get_or l.heights j 0);
  waiting : Lists (sites l.lattice) (may_topple (λ j. get_or l.heights j 0)) l.generation.items;
  generation_room : sites l.lattice + 4 ≤ l.generation.room;
  next_room : sites l.lattice + 4 ≤ l.next.room;
}

abbrev pub decreases-generations : goal.decreases-generations
decreases-generations l = weight l.lattice (λ j. get_or l.heights j 0)
