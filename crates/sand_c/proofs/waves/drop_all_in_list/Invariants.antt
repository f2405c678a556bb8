use Rattle.sand_c.proofs.Common.{◌≡◌, ◌+◌, ◌*◌, ◌≤◌, ℕ, List, ◌++◌, length, take, most_to_edge, PileView, grid_of_driven, IsAfter, AreAvalanches, AreWaves}
use Rattle.std.proofs.Common.{drop}
use Rattle.sand_c.proofs.waves.drop_all_in_list.Given as goal

abbrev pub invariant-loop-next : goal.invariant-loop-next
invariant-loop-next l = record {
  avalanches : AreAvalanches l.initial.pile (take l.next l.drops) (take l.next l.avalanches) l.pile;
  waves : AreWaves l.initial.pile (take l.next l.drops) (take l.count l.waves) l.pile;
  after : (start : PileView) (history : List ℕ) → IsAfter start history l.initial.pile
      → IsAfter start (history ++ take l.next l.drops) l.pile;
  grid : grid_of_driven l.pile ≡ grid_of_driven l.initial.pile;
  grains : l.pile.grains ≡ l.initial.pile.grains + l.next;
  avalanche_each : length l.avalanches ≡ length l.drops;
  few : l.count ≤ l.next * most_to_edge (grid_of_driven l.initial.pile);
  rest : drop l.count l.waves ≡ drop l.count l.initial.waves;
  len : length l.waves ≡ length l.initial.waves;
  room : length l.sizes ≡ length l.initial.sizes;
}
