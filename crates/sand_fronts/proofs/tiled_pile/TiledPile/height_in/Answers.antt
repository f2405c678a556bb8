use Rattle.sand_fronts.proofs.Common.{◌∙◌, ap, arith, Tile, height}
use Rattle.sand_fronts.proofs.Gained.{tile_read}
use Rattle.sand_fronts.proofs.OnPiles.{site_seen}
use Rattle.sand_fronts.proofs.tiled_pile.TiledPile.height_in.Goals as goal

pub returns : goal.returns
returns c =
    let read = tile_read c.self.inside.sand.tiles.items c.find_at-tile.result.0 c.index.result.now
    (omega (arith, c.find_at-tile.ensures.inside.0, c.self.invariant.sand.len)) c.index.ensures in
    c.height_at.ensures ∙ ap (λ (t : Tile). height t c.find_at-tile.result.1) read
    ∙ (site_seen c.self.inside.board.shape c.self.inside.sand c.self.inside.counts c.args.column c.args.row
    c.self.view_is c.requires.site c.find_at-tile.ensures.tile c.find_at-tile.ensures.place).0
