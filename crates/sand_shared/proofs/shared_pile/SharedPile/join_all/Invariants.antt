use Rattle.sand_shared.proofs.Common.{All, length, IsPassOf}
use Rattle.sand_shared.proofs.JoinedInOrder.{IsJoining}
use Rattle.sand_shared.proofs.shared_pile.SharedPile.join_all.Given as goal

abbrev pub invariant-passes : goal.invariant-passes
invariant-passes l = record {
  of_pile : IsPassOf l.self l.first;
  coming : All (IsPassOf l.self) l.passes.items;
  joining : IsJoining l.fn.first l.fn.passes.items l.first l.passes.items;
}

abbrev pub decreases-passes : goal.decreases-passes
decreases-passes l = length l.passes.items
