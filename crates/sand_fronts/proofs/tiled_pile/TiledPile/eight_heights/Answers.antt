-- The eight sites are in one row of a tile, so they are at places in a row (`eight_seen`), none past the 64th
-- (`few_places`).
use Rattle.sand_fronts.proofs.Common.{ap, ◌∙◌, ◌+◌, arith, Tile, height}
use Rattle.sand_fronts.proofs.Gained.{tile_read}
use Rattle.sand_fronts.proofs.Eights.{few_places}
use Rattle.sand_fronts.proofs.OnPiles.{eight_seen}
use Rattle.sand_fronts.proofs.tiled_pile.TiledPile.eight_heights.Goals as goal

pub eight_heights-requires : goal.eight_heights-requires
eight_heights-requires c =
    let few = few_places c.self.inside.board.shape c.args.spot (rw (← c.self.view_is) at c.requires) in
    omega (arith, c.find_at-tile.ensures.place)

pub returns : goal.returns
returns c i few inside =
    let read = tile_read c.self.inside.sand.tiles.items c.find_at-tile.result.0 c.index.result.now
    (omega (arith, c.find_at-tile.ensures.inside.0, c.self.invariant.sand.len)) c.index.ensures in
    c.eight_heights.ensures i few ∙ ap (λ (t : Tile). height t (c.find_at-tile.result.1 + i)) read
    ∙ (eight_seen c.self.inside.board.shape c.self.inside.sand c.self.inside.counts c.args.spot c.self.view_is
    c.requires c.find_at-tile.ensures.tile c.find_at-tile.ensures.place i few inside).0
