use Rattle.sand_lab.proofs.Common.{◌≡◌, ◌++◌, ◌+◌, ◌*◌, ◌/◌, ◌≤◌, length, vec_len, vec_capacity, into_iter_items, into_iter_len, grid_of_terms, IsPassOf, all_counts, all_swept}
use Rattle.sand_lab.proofs.RowsInBands.{top}
use Rattle.sand_lab.proofs.gathering.gather_workers.Given as goal

abbrev pub invariant-loop-worker : goal.invariant-loop-worker
invariant-loop-worker l = record {
  of_pile : IsPassOf l.pile l.first;
  first : l.first ≡ record l.fn.first {
    seen = l.first.seen;
    rows = top (length l.yielded * (grid_of_terms l.pile.terms).height / length l.fn.workers.items);
    counts = all_counts l.yielded;
  };
  items : l.yielded ++ into_iter_items l.worker-iterator ≡ l.fn.workers.items;
  len : length (into_iter_items l.worker-iterator) ≡ into_iter_len l.worker-iterator;
  room : vec_len l.all + length (into_iter_items l.worker-iterator) ≤ vec_capacity l.all;
  swept : l.all.items ≡ all_swept l.yielded;
}
