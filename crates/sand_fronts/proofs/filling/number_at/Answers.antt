-- The column and the row of a place that is a site are in the grid (`spot_in`), so the function may be called with
-- them.
use Rattle.std.proofs.Common.{◌∙◌, sym}
use Rattle.sand_fronts.proofs.Filled.{spot_in, site_number, no_number}
use Rattle.sand_fronts.proofs.filling.number_at.Goals as goal

pub numbers-requires : goal.numbers-requires
numbers-requires g c =
    let inside = spot_in c.args.shape c.args.k c.args.place c.in-Some.spot (sym c.site_at.ensures ∙ c.in-Some.is) in
    c.requires.sites.may c.in-Some.spot inside.0 inside.1

pub returns-in-Some-clause-bound : goal.returns-in-Some-clause-bound
returns-in-Some-clause-bound g c =
    let inside = spot_in c.args.shape c.args.k c.args.place c.in-Some.spot (sym c.site_at.ensures ∙ c.in-Some.is) in
    c.requires.sites.bound c.in-Some.spot c.numbers.result inside.0 inside.1 c.numbers.ensures

pub returns-in-Some-clause-each : goal.returns-in-Some-clause-each
returns-in-Some-clause-each g c = site_number c.args.shape c.args.k c.args.place c.in-Some.spot c.numbers.result _
    (sym c.site_at.ensures ∙ c.in-Some.is) c.numbers.ensures

pub returns-in-None-clause-each : goal.returns-in-None-clause-each
returns-in-None-clause-each g c h tells =
    no_number c.args.shape c.args.k c.args.place h (sym c.site_at.ensures ∙ c.in-None.is)
