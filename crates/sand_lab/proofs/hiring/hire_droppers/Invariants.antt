use Rattle.sand_lab.proofs.Common.{◌≡◌, ◌≤◌, ◌+◌, ◌*◌, vec_len, vec_capacity, EachAt, IsDropper, unshared}
use Rattle.sand_lab.proofs.hiring.hire_droppers.Given as goal

abbrev pub invariant-loop-who : goal.invariant-loop-who
invariant-loop-who l = record {
  droppers : EachAt (IsDropper l.pile l.fn.wish l.fn.epoch) l.droppers.items;
  len : vec_len l.droppers ≡ l.who;
  room : l.wish.droppers ≤ vec_capacity l.droppers;
  first : l.first ≡ unshared l.pile l.first.left;
  left : l.first.left + l.who * l.wish.drops ≡ l.wish.droppers * l.wish.drops;
}
