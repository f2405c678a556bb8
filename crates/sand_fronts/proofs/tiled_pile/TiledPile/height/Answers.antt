use Rattle.sand_fronts.proofs.Common.{◌∙◌, ap, arith, column, row, TiledView}
use Rattle.sand_fronts.proofs.Boards.{site_parts}
use Rattle.sand_fronts.proofs.tiled_pile.TiledPile.height.Goals as goal

pub height_in-requires-clause-site : goal.height_in-requires-clause-site
height_in-requires-clause-site c =
    let parts = site_parts c.args.self.now.grid c.args.site c.place-column.result c.requires (c.place-column.ensures
    ∙ ap (λ (v : TiledView). (column v.grid c.args.site, row v.grid c.args.site)) c.self.view_is) in
    omega (arith, parts.1, c.requires)
