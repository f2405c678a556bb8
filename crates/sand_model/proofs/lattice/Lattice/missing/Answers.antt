-- Each of the four places is a neighbour or outside the grid (`missing_is`).
use Rattle.std.proofs.Common.{◌∙◌, sym, ap, count_by, is_none}
use Rattle.sand_model.proofs.Neighbours.{missing_is}
use Rattle.sand_model.proofs.lattice.Lattice.missing.Goals as goal

pub returns : goal.returns
returns c = c.from.ensures ∙ c.outside.ensures ∙ ap (count_by is_none) c.neighbours.ensures.places
    ∙ sym (missing_is c.args.self.now c.args.site)
