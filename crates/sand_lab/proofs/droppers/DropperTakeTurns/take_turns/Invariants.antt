use Rattle.sand_lab.proofs.Common.{◌≡◌, ◌<◌, [], true, length, div_ceil, IsDropping}
use Rattle.sand_lab.proofs.droppers.DropperTakeTurns.take_turns.Given as goal

abbrev pub invariant-loop-turn : goal.invariant-loop-turn
invariant-loop-turn g l = record {
  dropping : IsDropping l.pile l.turns l.turn l.fn.self l.self;
  bound : 0 < l.turns → length l.self.batch.items < div_ceil l.turns 16;
  one_by_one : l.holds ≡ true → l.self.batch.items ≡ [];
}
