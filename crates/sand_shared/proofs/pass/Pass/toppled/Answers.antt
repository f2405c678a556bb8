-- The site is in the pass's rows: not before the first of them, and so near that it has a count (`site_inside`).
use Rattle.sand_shared.proofs.Common.{◌≡◌, ◌-◌, ◌*◌, get_or, sym, ap, ◌∙◌, subst, arith, get_or_read, PassView, at_rest, shown, toppled_by, HoldsSite}
use Rattle.sand_shared.proofs.GrainsAtSite.{toppled_from}
use Rattle.sand_shared.proofs.RowSites.{IsInside, site_inside}
use Rattle.sand_shared.proofs.pass.Pass.toppled.Goals.{After-width}
use Rattle.sand_shared.proofs.pass.Pass.toppled.Goals as goal

holds : (c : After-width) → IsInside c.bare.inside.shape c.bare.inside.rows c.args.site
holds c = site_inside c.bare.inside.shape c.bare.inside.rows c.args.site c.bare.invariant.pass.grid
    (subst (λ (v : PassView). HoldsSite v.grid v.rows c.args.site) (sym (c.bare.view_is ∙ c.self.view_is)) c.requires)

pub index-requires : goal.index-requires
index-requires c =
    let p = c.bare.inside in
    let inside = holds (goal.at.index-requires c).After-width in
    let base : c.from.result * c.width.result ≡ p.rows.first * p.shape.width =
    λ i. c.from.ensures i * c.width.ensures.value i in
    omega arith

pub returns : goal.returns
returns c =
    let p = c.bare.inside in
    let is = c.bare.view_is ∙ c.self.view_is in
    let inside = holds (goal.at.returns c).After-width in
    let from = inside.from in
    let base : c.from.result * c.width.result ≡ p.rows.first * p.shape.width =
    λ i. c.from.ensures i * c.width.ensures.value i in
    get_or_read p.counts.items _ _ (omega arith) c.index.ensures 0
    ∙ ap (λ b. get_or p.counts.items (c.args.site - b) 0) base
    ∙ sym (toppled_from (at_rest (shown p)) c.args.site from)
    ∙ ap (λ (w : PassView). toppled_by (at_rest w) c.args.site) is
