use Rattle.sand_lab.proofs.Common.{◌≡◌, ◌≤◌, All, vec_len, vec_capacity, IsPassOf, Climbs}
use Rattle.sand_lab.proofs.observers.ObserverTakeTurns.take_turns.Given as goal

abbrev pub invariant-loop-turn : goal.invariant-loop-turn
invariant-loop-turn g l = record {
  who : l.self.who ≡ l.fn.self.who;
  of_pile : IsPassOf l.pile l.self.pass;
  kept : l.self.pass ≡ record l.fn.self.pass { seen = l.self.pass.seen };
  room : l.turns ≤ vec_capacity l.self.tallies;
  as_many : vec_len l.self.tallies ≡ l.turn;
  climbs : Climbs 0 l.self.tallies.items l.self.pass.seen;
  within : All (λ n. n ≤ l.pile.terms.quota) l.self.tallies.items;
}
