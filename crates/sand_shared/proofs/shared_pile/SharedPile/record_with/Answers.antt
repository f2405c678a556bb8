-- The same as in `complete`, from copies of the start and of the counts.
use Rattle.sand_shared.proofs.Common.{ℕ, List, length, sym, refl, ap, ◌∙◌, subst, arith, rules, slice_index, PileView, Tells, IsCompleted}
use Rattle.sand_shared.proofs.LastPileIsSettled.{gathered, gathered_record, stands_bare, completed_leads}
use Rattle.sand_shared.proofs.shared_pile.SharedPile.record_with.Goals as goal

pub record_of-requires : goal.record_of-requires
record_of-requires c =
    let b = gathered c.pass.view_is c.pass.invariant c.requires.pass c.requires.whole in
    let s = stands_bare c.self.view_is c.pass.view_is c.pass.invariant c.learn.ensures.view c.learn.ensures.stands in
    subst (λ (q : PileView × List ℕ). IsCompleted q.0 c.args.history.items q.1 c.args.rest)
    (λ i. (sym c.requires.start i, sym c.requires.counts i))
    (completed_leads b s c.requires.rest c.args.history.items c.requires.len c.requires.tells)

pub returns-clause-closed : goal.returns-clause-closed
returns-clause-closed c =
    let b = gathered c.pass.view_is c.pass.invariant c.requires.pass c.requires.whole in
    let s = stands_bare c.self.view_is c.pass.view_is c.pass.invariant c.learn.ensures.view c.learn.ensures.stands in
    let history = c.record_of.ensures.history in
    gathered_record b s refl _ (search rules) (c.record_of.ensures.start ∙ c.requires.start)
    (ap (λ (l : List ℕ). length l) history ∙ c.requires.len)
    (subst (Tells c.args.pass.now.receipts) (sym history) c.requires.tells)
    (λ i.
    omega (arith, ap (λ (l : List ℕ). slice_index l i) c.requires.counts, c.record_of.ensures.never_fall i))
