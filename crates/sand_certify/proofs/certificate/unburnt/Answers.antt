-- The four neighbours of an inner site are its places (`some_four`).
use Rattle.sand_model.proofs.Neighbours.{place_inside}
use Rattle.sand_certify.proofs.InnerPlaces.{some_four}
use Rattle.sand_certify.proofs.certificate.unburnt.Goals as goal

pub unburnt_among-requires : goal.unburnt_among-requires
unburnt_among-requires c k = place_inside c.args.lattice.now c.args.site _ k _
    (some_four c.args.lattice.now c.args.site c.inner_neighbours.result c.inner_neighbours.ensures)
    c.requires.site c.requires.len

pub unburnt_among-requires-else-is_inner : goal.unburnt_among-requires-else-is_inner
unburnt_among-requires-else-is_inner c k =
    place_inside c.args.lattice.now c.args.site _ k _ c.neighbours.ensures.places c.requires.site c.requires.len
