-- No row is computed: a site is past the first row if and only if it is at least the width, and before the last one if
-- and only if the site one width on is in the grid (`inner_told`). Its column is in the table.
use Rattle.sand_model.proofs.Common.{◌≡◌, ◌∙◌, ap, arith, get_or_default, Grid, sites, column}
use Rattle.sand_model.specs.Columns.{AreSiteColumns}
use Rattle.sand_model.proofs.Borders.{inner_told}
use Rattle.sand_model.proofs.lattice.Lattice.is_inner.Goals as goal

pub returns : goal.returns
returns c =
    let width = ap (λ (g : Grid). g.width) c.self.view_is in
    let end = ap (λ (g : Grid). sites g) c.self.view_is in
    let columns : AreSiteColumns c.args.self.now c.self.inside.columns.items =
    rw c.self.view_is at c.self.invariant.3 in
    let x : c.from-column.result ≡ column c.args.self.now c.args.site =
    c.from-column.ensures ∙ c.index.ensures
    ∙ get_or_default c.self.inside.columns.items c.args.site
    c.index.result.now 0 (omega (arith, columns.len, c.requires))
    ∙ columns.each c.args.site c.requires in
    inner_told c.args.self.now c.args.site c.self.inside.width c.self.inside.end c.from-column.result
    c.requires (omega (arith, width, c.self.invariant.1)) (omega (arith, end, c.self.invariant.2)) x
