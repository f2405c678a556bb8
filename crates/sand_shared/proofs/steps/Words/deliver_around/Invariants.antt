use Rattle.sand_shared.proofs.Common.{◌≡◌, drop, StaysSeated}
use Rattle.sand_shared.proofs.SentToNeighbours.{sends}
use Rattle.sand_shared.proofs.steps.Words.deliver_around.Given as goal

abbrev pub invariant-loop-place : goal.invariant-loop-place
invariant-loop-place l = record {
  seat : StaysSeated l.initial.seat l.seat;
  hand : l.seat.me.0 ≡ record l.initial.seat.me.0 { hand = sends l.times (drop l.place-index l.place-items) };
}
