-- The place that is read is that of the site, so contracts see this count there (`site_seen`).
use Rattle.sand_fronts.proofs.Common.{◌≡◌, ◌+◌, ◌*◌, ◌∙◌, arith, slice_index, counted, counts_of}
use Rattle.sand_fronts.proofs.OnPiles.{site_seen}
use Rattle.sand_fronts.proofs.tiled_pile.TiledPile.times_in.Goals.{After-find_at-tile}
use Rattle.sand_fronts.proofs.tiled_pile.TiledPile.times_in.Goals as goal

read : (c : After-find_at-tile)
    → counted (counts_of c.self.inside.counts c.find_at-tile.result.0) c.find_at-tile.result.1
    ≡ slice_index c.args.self.now.times (c.args.row * c.args.self.now.grid.width + c.args.column)
read c = (site_seen c.self.inside.board.shape c.self.inside.sand c.self.inside.counts c.args.column c.args.row
    c.self.view_is c.requires.site c.find_at-tile.ensures.tile c.find_at-tile.ensures.place).1

pub times-requires : goal.times-requires
times-requires c = record {
  tile = (
    omega (arith, c.find_at-tile.ensures.inside.0, c.self.invariant.counts.len),
    omega (arith, c.find_at-tile.ensures.inside.0, c.self.invariant.counts.whole_each),
  );
  place = c.find_at-tile.ensures.inside.1;
  bound = omega (arith, read (goal.at.times-requires c).After-find_at-tile, c.requires.bound);
}

pub returns : goal.returns
returns c = c.times.ensures ∙ read (goal.at.returns c).After-find_at-tile
