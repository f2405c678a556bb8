-- An odometer entry is the start's and the count on the tiles together (`by_site_at`), below 2^60 (`few_counts`).
use Rattle.sand_settle.proofs.Common.{◌≡◌, ◌+◌, ◌<◌, ℕ, ap, arith, slice_index, subst, sym, sites, DrivenView, grid_of_driven, odometer_of}
use Rattle.sand_fronts.proofs.NewPiles.{by_site_at}
use Rattle.sand_settle.proofs.Driven.{few_counts}
use Rattle.sand_settle.proofs.driven_pile.DrivenPile.odometer.Goals as goal

-- a site of the pile that contracts see is one of the pile inside
inside : {v w : DrivenView} → v ≡ w → (site : ℕ) → site < sites (grid_of_driven w) → site < sites (grid_of_driven v)
inside same site lt = subst (λ (u : DrivenView). site < sites (grid_of_driven u)) (sym same) lt

pub times-requires-clause-bound : goal.times-requires-clause-bound
times-requires-clause-bound c =
    let lt = inside c.self.view_is c.args.site c.requires in
    omega (arith, few_counts c.self.invariant c.args.site (omega (arith, ap sites c.self.invariant.one_grid)))

pub overflow_add-result : goal.overflow_add-result
overflow_add-result c =
    let lt = inside c.self.view_is c.args.site c.requires in
    let few = few_counts c.self.invariant c.args.site (omega (arith, ap sites c.self.invariant.one_grid)) in
    record { fits = omega (arith, c.odometer.ensures, c.times.ensures) }

pub returns : goal.returns
returns c =
    let at = by_site_at c.self.inside.start.pile.grid
    (λ j. slice_index c.self.inside.start.odometer j + slice_index c.self.inside.tiles.times j)
    c.args.site (inside c.self.view_is c.args.site c.requires) in
    subst (λ (v : DrivenView). c.odometer.result + c.times.result ≡ odometer_of v.settled c.args.site)
    c.self.view_is (omega (arith, c.odometer.ensures, c.times.ensures))
