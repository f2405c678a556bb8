-- The load tells that the pass is on a lawful pile (`stands_bare`). So the history is that of its receipts
-- (`gathered_record`), and its counts with the odometer of the rest are the least odometer (`completed_leads`).
use Rattle.sand_shared.proofs.Common.{ℕ, List, length, sym, refl, ap, ◌∙◌, subst, arith, rules, slice_index, PileView, Terms, SharedView, PassView, Tells, IsCompleted}
use Rattle.sand_shared.proofs.LastPileIsSettled.{gathered, gathered_record, stands_bare, completed_leads}
use Rattle.sand_shared.proofs.shared_pile.SharedPile.complete.Goals as goal

pub record_of-requires : goal.record_of-requires
record_of-requires c =
    let b = gathered c.pass.view_is c.pass.invariant c.requires.pass c.requires.whole in
    let s = stands_bare c.self.view_is c.pass.view_is c.pass.invariant c.learn.ensures.view c.learn.ensures.stands in
    let start = ap (λ (t : Terms). t.start) c.end-start.ensures.terms ∙ ap (λ (w : SharedView). w.terms.start) c.self.view_is in
    subst (λ (z : PileView × PassView). IsCompleted z.0 c.args.history.items z.1.counts c.args.rest)
    (λ i. (sym start i, sym c.pass.view_is i))
    (completed_leads b s c.requires.rest c.args.history.items c.requires.len c.requires.tells)

pub returns-clause-closed : goal.returns-clause-closed
returns-clause-closed c =
    let b = gathered c.pass.view_is c.pass.invariant c.requires.pass c.requires.whole in
    let s = stands_bare c.self.view_is c.pass.view_is c.pass.invariant c.learn.ensures.view c.learn.ensures.stands in
    let history = c.record_of.ensures.history in
    gathered_record b s refl _ (search rules) (search rules)
    (ap (λ (l : List ℕ). length l) history ∙ c.requires.len)
    (subst (Tells c.args.pass.receipts) (sym history) c.requires.tells)
    (λ i.
    omega (arith, ap (λ (q : PassView). slice_index q.counts i) c.pass.view_is, c.record_of.ensures.never_fall i))
