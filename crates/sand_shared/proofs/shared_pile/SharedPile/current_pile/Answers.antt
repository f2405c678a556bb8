-- What the seat has toppled is under way to what was read (`read`), and for a whole pass that is its counts by site
-- (`left_underway`).
use Rattle.sand_shared.proofs.Common.{ℕ, sym, subst, slice_index, Me, IsUnderway, PileView, height_of, View, Terms, grid_of_terms, toppled_by, PassView, at_rest, start_and_receipts}
use Rattle.sand_shared.proofs.LastPileIsSettled.{left_underway, gathered}
use Rattle.sand_shared.proofs.shared_pile.SharedPile.current_pile.Goals as goal

pub returns-clause-underway : goal.returns-clause-underway
returns-clause-underway c =
    let inv = c.pass.invariant in
    let h = slice_index c.read.new.heights.items in
    let here = subst (λ (m : Me ℕ View).
    IsUnderway (grid_of_terms c.self.inside.words.terms)
    (start_and_receipts c.self.inside.words.terms m.0) (toppled_by m.0) h)
    inv.me c.read.ensures.underway in
    let there = subst
    (λ (z : Terms × PassView).
    IsUnderway (grid_of_terms z.0) (start_and_receipts z.0 (at_rest z.1)) (toppled_by (at_rest z.1)) h)
    (λ i. ((c.self.view_is i).terms, c.pass.view_is i)) here in
    subst (λ (q : PileView). IsUnderway (grid_of_terms c.args.self.now.terms)
    (start_and_receipts c.args.self.now.terms (at_rest c.args.pass.now))
    (slice_index c.args.pass.now.counts) (height_of q))
    (sym c.from_vec.ensures)
    (left_underway c.args.self.now.terms c.args.pass.now
    (gathered c.pass.view_is c.pass.invariant c.requires.pass c.requires.whole) h there)
