-- The column and the row found for a site lead back to it (`site_parts`).
use Rattle.sand_fronts.proofs.Common.{◌≡◌, ◌+◌, ◌*◌, ◌∙◌, ap, arith, column, row, TiledView}
use Rattle.sand_fronts.proofs.Boards.{site_parts}
use Rattle.sand_fronts.proofs.tiled_pile.TiledPile.times.Goals.{After-place-column}
use Rattle.sand_fronts.proofs.tiled_pile.TiledPile.times.Goals as goal

same : (c : After-place-column)
    → c.place-column.result.1 * c.args.self.now.grid.width + c.place-column.result.0 ≡ c.args.site
same c = (site_parts c.args.self.now.grid c.args.site c.place-column.result c.requires.site (c.place-column.ensures
    ∙ ap (λ (v : TiledView). (column v.grid c.args.site, row v.grid c.args.site)) c.self.view_is)).1

pub times_in-requires-clause-site : goal.times_in-requires-clause-site
times_in-requires-clause-site c =
    omega (arith, same (goal.at.times_in-requires-clause-site c).After-place-column, c.requires.site)

pub times_in-requires-clause-bound : goal.times_in-requires-clause-bound
times_in-requires-clause-bound c = rw (← same (goal.at.times_in-requires-clause-bound c).After-place-column)
    at c.requires.bound
