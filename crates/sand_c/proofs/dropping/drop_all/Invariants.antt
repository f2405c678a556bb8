use Rattle.sand_c.proofs.Common.{◌≡◌, ◌+◌, ℕ, List, ◌++◌, length, take, PileView, grid_of_driven, IsAfter, AreAvalanches}
use Rattle.sand_c.proofs.dropping.drop_all.Given as goal

abbrev pub invariant-loop-next : goal.invariant-loop-next
invariant-loop-next l = record {
  avalanches : AreAvalanches l.initial.pile (take l.next l.drops) (take l.next l.avalanches) l.pile;
  after : (start : PileView) (history : List ℕ) → IsAfter start history l.initial.pile
      → IsAfter start (history ++ take l.next l.drops) l.pile;
  grid : grid_of_driven l.pile ≡ grid_of_driven l.initial.pile;
  grains : l.pile.grains ≡ l.initial.pile.grains + l.next;
  avalanche_each : length l.avalanches ≡ length l.drops;
}
