-- The number of a neighbour still counts the burning site, at each place where it is next to it: so one can be taken
-- off there (`place_left`). The four places together are the neighbours (`occurrences_places`).
use Rattle.sand_group.proofs.Common.{arith, place_inside, occurrences_places}
use Rattle.sand_group.proofs.FireLeavesForbidden.{place_left}
use Rattle.sand_group.proofs.burning.spread_fire.Goals as goal

pub note_burnt_neighbour-requires-clause-inside : goal.note_burnt_neighbour-requires-clause-inside
note_burnt_neighbour-requires-clause-inside c = place_inside c.args.lattice.now c.args.site _ 0 _
    c.neighbours.ensures.places c.requires.site c.requires.heights_each

pub note_burnt_neighbour-requires-clause-unburnt : goal.note_burnt_neighbour-requires-clause-unburnt
note_burnt_neighbour-requires-clause-unburnt c =
    let places = c.neighbours.ensures.places in
    place_left c.args.lattice.now c.args.site 0 _ _ places c.requires.site (λ j l.
    omega (arith, c.requires.unburnt j l, occurrences_places c.args.lattice.now c.args.site j _ places))

pub note_burnt_neighbour-requires-2-clause-inside : goal.note_burnt_neighbour-requires-2-clause-inside
note_burnt_neighbour-requires-2-clause-inside c = place_inside c.args.lattice.now c.args.site _ 1 _
    c.neighbours.ensures.places c.requires.site c.requires.heights_each

pub note_burnt_neighbour-requires-2-clause-unburnt : goal.note_burnt_neighbour-requires-2-clause-unburnt
note_burnt_neighbour-requires-2-clause-unburnt c =
    let places = c.neighbours.ensures.places in
    place_left c.args.lattice.now c.args.site 1 _ _ places c.requires.site (λ j l.
    omega (arith, c.requires.unburnt j l, occurrences_places c.args.lattice.now c.args.site j _ places))

pub note_burnt_neighbour-requires-3-clause-inside : goal.note_burnt_neighbour-requires-3-clause-inside
note_burnt_neighbour-requires-3-clause-inside c = place_inside c.args.lattice.now c.args.site _ 2 _
    c.neighbours.ensures.places c.requires.site c.requires.heights_each

pub note_burnt_neighbour-requires-3-clause-unburnt : goal.note_burnt_neighbour-requires-3-clause-unburnt
note_burnt_neighbour-requires-3-clause-unburnt c =
    let places = c.neighbours.ensures.places in
    place_left c.args.lattice.now c.args.site 2 _ _ places c.requires.site (λ j l.
    omega (arith, c.requires.unburnt j l, occurrences_places c.args.lattice.now c.args.site j _ places))

pub note_burnt_neighbour-requires-4-clause-inside : goal.note_burnt_neighbour-requires-4-clause-inside
note_burnt_neighbour-requires-4-clause-inside c = place_inside c.args.lattice.now c.args.site _ 3 _
    c.neighbours.ensures.places c.requires.site c.requires.heights_each

pub note_burnt_neighbour-requires-4-clause-unburnt : goal.note_burnt_neighbour-requires-4-clause-unburnt
note_burnt_neighbour-requires-4-clause-unburnt c =
    let places = c.neighbours.ensures.places in
    place_left c.args.lattice.now c.args.site 3 _ _ places c.requires.site (λ j l.
    omega (arith, c.requires.unburnt j l, occurrences_places c.args.lattice.now c.args.site j _ places))

pub returns-clause-fewer : goal.returns-clause-fewer
returns-clause-fewer c j =
    omega (
      arith,
      occurrences_places c.args.lattice.now c.args.site j _ c.neighbours.ensures.places,
      c.note_burnt_neighbour.ensures.one_less j,
      c.note_burnt_neighbour-2.ensures.one_less j,
      c.note_burnt_neighbour-3.ensures.one_less j,
      c.note_burnt_neighbour-4.ensures.one_less j,
    )
