use Rattle.sand_fronts.proofs.Common.{◌≡◌, ◌+◌, length, tiles, AreListed, tile_at, in_wave, over_wave, tiles_of, AreCounted}
use Rattle.sand_fronts.proofs.counts.Counts.count_wave.Given as goal

abbrev pub invariant-loop-position : goal.invariant-loop-position
invariant-loop-position l = record {
  counted : AreCounted l.fn.sand.tiles.items l.sand.tiles.items l.fn.self l.self;
  list : l.sand.list ≡ l.fn.sand.list;
  listed : AreListed l.fn.sand.list.items l.position (length l.fn.sand.list.items) (tiles_of l.sand);
  size : l.total.size + in_wave (tiles l.fn.board.shape) (tiles_of l.sand)
      ≡ in_wave (tiles l.fn.board.shape) (tiles_of l.fn.sand);
  lost : l.total.lost + over_wave (tiles l.fn.board.shape) (tile_at l.fn.board.outside.items) (tiles_of l.sand)
      ≡ over_wave (tiles l.fn.board.shape) (tile_at l.fn.board.outside.items) (tiles_of l.fn.sand);
}
