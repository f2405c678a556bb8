-- The visit is one change of the list (`written`), and what leaves the tile is a gain of the four next to it. After
-- its visit the tile has no due place, so it waits no more (`visited_waits`).
use Rattle.sand_fronts.proofs.Common.{◌≡◌, ◌∙◌, length, arith, set, length-set, joins_from, Tile, tiles}
use Rattle.sand_fronts.proofs.Gained.{tile_read, gains_from, written}
use Rattle.sand_fronts.proofs.TileLists.{visited_waits}
use Rattle.sand_fronts.proofs.sand.Sand.topple_tile.Goals.{After-hand_over}
use Rattle.sand_fronts.proofs.sand.Sand.topple_tile.Goals as goal

-- the number of tiles, after the visit
visited_each : (c : After-hand_over)
    → length (set c.args.self.now.tiles.items c.args.k c.visit-new.new.tile) ≡ tiles c.args.board.now.shape
visited_each c = length-set {A = Tile} c.args.self.now.tiles.items c.args.k c.visit-new.new.tile ∙ c.requires.sand.len

pub returns-clause-steps : goal.returns-clause-steps
returns-clause-steps c =
    let tile = tile_read c.args.self.now.tiles.items c.args.k c.index_mut.result.now
    (omega (arith, c.requires.tile.inside, c.requires.sand.len)) c.index_mut.ensures.value in
    let free = c.as_slice-free.ensures.value in
    record {
      visited = record {
        tile = c.visit-new.new.tile;
        new = c.visit-new.result;
        visits = rw (← tile, ← free) c.visit-new.ensures;
        fits = omega arith;
      };
      gains =
          rw (← c.beside.ensures, ← free) (gains_from (λ m. written c.args.self.now.tiles.items c.args.k m c.visit-new.new.tile
          (omega (arith, c.requires.tile.inside, c.requires.sand.len)))
          c.hand_over.ensures.gains);
    }

pub returns-clause-joins : goal.returns-clause-joins
returns-clause-joins c =
    joins_from
    (λ j l. visited_waits c.args.self.now.tiles.items c.args.k j c.visit-new.new.tile
    (omega (arith, c.requires.tile.inside, c.requires.sand.len)) c.visit-new.ensures.none_due)
    (rw (← visited_each c) c.hand_over.ensures.joins)
