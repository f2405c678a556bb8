-- Only one tile of the list changes (`gains_one`), and it joins those that wait if a place is due in it now and none
-- was (`joins_one`).
use Rattle.sand_fronts.proofs.Common.{arith, slice_index, length-set, Tile}
use Rattle.sand_fronts.proofs.Gained.{tile_read, gains_one}
use Rattle.sand_fronts.proofs.TileLists.{joins_one}
use Rattle.sand_fronts.proofs.sand.Sand.gain.Goals as goal

pub returns : goal.returns
returns c =
    let ts = c.args.self.now.tiles.items in
    let k = c.args.k in
    let new = c.receive.new.tile in
    let read = tile_read ts k c.index_mut-tile.result.now c.requires.inside c.index_mut-tile.ensures.value in
    record {
      len = length-set {A = Tile} ts k new;
      gains = gains_one (slice_index c.args.free.now) ts k new c.args.gain c.requires.inside
          (rw (← read) c.receive.ensures);
      joins = joins_one ts k c.index_mut-tile.result.now new
          c.args.self.now.list c.push_if.new.self c.requires.inside read (omega arith) (omega arith) c.receive.ensures.due_grows c.push_if.ensures;
    }
