-- The four neighbours of an inner site are its places (`some_four`).
use Rattle.sand_model.proofs.Neighbours.{place_inside}
use Rattle.sand_certify.proofs.InnerPlaces.{some_four}
use Rattle.sand_certify.proofs.certificate.inflow.Goals as goal

pub inflow_from-requires-clause-inside : goal.inflow_from-requires-clause-inside
inflow_from-requires-clause-inside c k = place_inside c.args.lattice.now c.args.site _ k _
    (some_four c.args.lattice.now c.args.site c.inner_neighbours.result c.inner_neighbours.ensures)
    c.requires.site c.requires.len

pub inflow_from-requires-else-is_inner-clause-inside : goal.inflow_from-requires-else-is_inner-clause-inside
inflow_from-requires-else-is_inner-clause-inside c k =
    place_inside c.args.lattice.now c.args.site _ k _ c.neighbours.ensures.places c.requires.site c.requires.len
