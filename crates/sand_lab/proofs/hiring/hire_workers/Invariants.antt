use Rattle.sand_lab.proofs.Common.{◌≡◌, ◌+◌, ◌-◌, ◌*◌, ◌/◌, vec_len, grid_of_terms, EachAt, IsWorker, upper_part}
use Rattle.sand_lab.proofs.hiring.hire_workers.Given as goal

abbrev pub invariant-loop-done : goal.invariant-loop-done
invariant-loop-done l = record {
  hired : EachAt (λ i. IsWorker l.pile l.fn.workers (l.workers - l.done + i)) l.hired.items;
  len : vec_len l.hired ≡ l.done;
  first : l.first ≡ upper_part l.pile 0 ((l.workers - l.done) * (grid_of_terms l.pile.terms).height / l.workers);
}
