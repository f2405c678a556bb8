use Rattle.sand_lab.proofs.Common.{◌≡◌, ◌≤◌, vec_len, vec_capacity, EachAt, IsObserver, rowless}
use Rattle.sand_lab.proofs.hiring.hire_observers.Given as goal

abbrev pub invariant-loop-who : goal.invariant-loop-who
invariant-loop-who l = record {
  hired : EachAt (IsObserver l.pile) l.hired.items;
  len : vec_len l.hired ≡ l.who;
  room : l.observers ≤ vec_capacity l.hired;
  first : l.first ≡ rowless l.pile 0;
}
