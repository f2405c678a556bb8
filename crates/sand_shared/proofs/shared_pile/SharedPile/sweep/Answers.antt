-- The sites of the pass's rows are in the grid (`rows_inside`). What its seat has swept, the pass has (`pass_swept`),
-- and afterwards the seat has what the pass has with the new counts (`seated`).
use Rattle.sand_shared.proofs.Common.{◌≡◌, ℕ, ◌*◌, length, sym, refl, ap, ◌∙◌, subst, arith, Me, sites, View, Terms, grid_of_terms, shown, looked, PassView, SharedView, HasAll, SweptRows, SweptAll, Swept}
use Rattle.sand_shared.proofs.RowSites.{rows_inside}
use Rattle.sand_shared.proofs.SeatOfPass.{seated}
use Rattle.sand_shared.proofs.SweptSiteBySite.{pass_swept}
use Rattle.sand_shared.proofs.shared_pile.SharedPile.sweep.Goals as goal

same_grid : {w w' : SharedView} {p p' : PassView} → w ≡ w' → p ≡ p' → p'.grid ≡ grid_of_terms w'.terms
    → p.grid ≡ grid_of_terms w.terms
same_grid pile_is pass_is same =
    ap (λ (q : PassView). q.grid) pass_is ∙ same ∙ sym (ap (λ (w : SharedView). grid_of_terms w.terms) pile_is)

pub sweep_rows-requires-clause-rows : goal.sweep_rows-requires-clause-rows
sweep_rows-requires-clause-rows c =
    let p = c.bare.inside in
    let pass = c.bare.invariant.pass in
    let base : c.from.result * c.width.result ≡ p.rows.first * p.shape.width =
    λ i. c.from.ensures i * c.width.ensures.value i in
    let inside = rows_inside p.shape p.rows pass.rows in
    omega (arith, ap sites (same_grid c.self.view_is (c.bare.view_is ∙ c.pass.view_is) c.requires.grid))

pub returns-clause-swept : goal.returns-clause-swept
returns-clause-swept c =
    let p = c.bare.inside in
    let t = c.self.inside.words.terms in
    let n = c.sweep_rows.result in
    let cs = c.sweep_rows.new.counts.items in
    let is = c.bare.view_is ∙ c.pass.view_is in
    let rows = subst (λ (m : Me ℕ View). SweptRows t m.0 cs n) c.bare.invariant.me c.sweep_rows.ensures.swept in
    let all =
    subst (λ (m : Me ℕ View). HasAll t m.0 → SweptAll t m.0 cs n) c.bare.invariant.me c.sweep_rows.ensures.all in
    let here =
    pass_swept t (shown p) cs n p.seat.me.0.spot p.seat.me.0.least (same_grid c.self.view_is is c.requires.grid)
    c.bare.invariant.pass.len rows all in
    subst (λ (z : Terms × PassView). Swept z.0 z.1 cs n) (λ i. ((c.self.view_is i).terms, is i)) here

pub invariant_of-bare : goal.invariant_of-bare
invariant_of-bare c =
    let inv = c.bare.invariant in
    let cs = c.sweep_rows.new.counts.items in
    let v = c.sweep_rows.new.seat.me.0 in
    let before = ap (λ (m : Me ℕ View). length m.0.counts) inv.me in
    seated (record (shown c.bare.inside) { counts = cs }) v.spot v.least
    record {
      once = inv.pass.once;
      below = inv.pass.below;
      grid = inv.pass.grid;
      rows = inv.pass.rows;
      len = omega arith;
    }
    inv.each_made
    (c.sweep_rows.ensures.view ∙ ap (λ (m : Me ℕ View). record (looked m.0 v.spot v.least) { counts = cs }) inv.me)
    c.sweep_rows.ensures.seat.bare refl
