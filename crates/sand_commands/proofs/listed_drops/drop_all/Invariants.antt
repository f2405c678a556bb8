use Rattle.sand_commands.proofs.Common.{◌≡◌, ◌+◌, [], false, length, take, vec_len, vec_capacity, PileView, grid_of_driven, IsAfter, AreNoted}
use Rattle.sand_commands.proofs.listed_drops.drop_all.Given as goal

abbrev pub invariant-loop-site : goal.invariant-loop-site
invariant-loop-site l = record {
  rows : AreNoted l.fn.alone l.initial.pile (take l.site-index l.drops) l.rows.items l.pile;
  after : (start : PileView) → IsAfter start [] l.initial.pile → IsAfter start (take l.site-index l.drops) l.pile;
  grid : grid_of_driven l.pile ≡ grid_of_driven l.initial.pile;
  number : l.pile.number ≡ l.initial.pile.number + l.site-index;
  grains : l.pile.grains ≡ l.initial.pile.grains + l.site-index;
  len : l.fn.alone ≡ false → vec_len l.rows ≡ l.site-index;
  room : l.fn.alone ≡ false → vec_capacity l.rows ≡ length l.drops;
}
