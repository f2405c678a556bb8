-- The rule holds of the last state: its words show a lawful open pile, on which the pass has what its seat has
-- (`last_is`).
use Rattle.sand_shared.proofs.Common.{◌≡◌, ℕ, ◌+◌, List, sym, ap, ◌∙◌, subst, arith, slice_index, sites, Terms, grid_of_terms, SharedView, IsRunning}
use Rattle.sand_shared.proofs.StepsAreEvents.{last_is}
use Rattle.sand_shared.proofs.steps.Words.close.Goals as goal

pub returns-clause-last : goal.returns-clause-last
returns-clause-last c =
    let words = c.self.invariant in
    let is = c.self.view_is in
    let t = c.args.self.terms in
    let key = words.key_is ∙ ap (λ (w : SharedView). w.terms) is in
    let final = c.close_with-closed.ensures.values.2 in
    let s = final.0 in
    let running = subst (λ (z : Terms). IsRunning z s) key final.1.0 in
    let counted : c.sites.result ≡ sites (grid_of_terms t) =
    c.sites.ensures.value ∙ ap sites (c.shape.ensures.value ∙ ap (λ (w : SharedView). grid_of_terms w.terms) is) in
    last_is t c.args.seat.id c.args.seat.me.0 s running final.1.1
    c.read_heights.new.heights.items (c.read_heights.ensures.len ∙ counted)
    (λ i l. c.read_heights.ensures.heights i (omega arith) ∙ ap (λ (ws : List ℕ). slice_index ws (i + 2)) (sym final.2))
