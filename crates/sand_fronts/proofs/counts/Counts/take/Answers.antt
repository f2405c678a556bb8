use Rattle.sand_fronts.proofs.Counted.{counted_one}
use Rattle.sand_fronts.proofs.Gained.{tile_read}
use Rattle.sand_fronts.proofs.counts.Counts.take.Goals as goal

pub returns-clause-counted : goal.returns-clause-counted
returns-clause-counted c =
    let ts = c.args.tiles.now.items in
    let read = tile_read ts c.args.k _ c.requires.tile c.index.ensures in
    let read' = tile_read ts c.args.k _ c.requires.tile c.index_mut.ensures.value in
    rw read' (counted_one ts c.args.self.now c.add.new.self c.args.k c.mark.new.self c.requires.tile
    (rw read at c.add.ensures.added) c.add.ensures.sound c.mark.ensures.len (rw read at c.mark.ensures.each))
