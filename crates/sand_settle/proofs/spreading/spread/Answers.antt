use Rattle.sand_model.proofs.Neighbours.{place_inside}
use Rattle.sand_certify.proofs.InnerPlaces.{some_four}
use Rattle.sand_settle.proofs.spreading.spread.Goals as goal

pub deliver_four-requires-clause-inside : goal.deliver_four-requires-clause-inside
deliver_four-requires-clause-inside c k = place_inside c.args.lattice.now c.args.site _ k _
    (some_four c.args.lattice.now c.args.site c.inner_neighbours.result c.inner_neighbours.ensures)
    c.requires.site c.requires.len

pub deliver_four-requires-else-is_inner-clause-inside : goal.deliver_four-requires-else-is_inner-clause-inside
deliver_four-requires-else-is_inner-clause-inside c k =
    place_inside c.args.lattice.now c.args.site _ k _ c.neighbours.ensures.places c.requires.site c.requires.len
