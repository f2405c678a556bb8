use Rattle.sand_model.proofs.Common.{ap, arith, Grid}
use Rattle.sand_model.proofs.Borders.{nothing_north}
use Rattle.sand_model.proofs.shape.Shape.north.Goals as goal

pub returns-else-site-self : goal.returns-else-site-self
returns-else-site-self c =
    let width = ap (λ (g : Grid). g.width) c.self.view_is in
    nothing_north c.args.self c.args.site c.requires (omega (arith, width))
