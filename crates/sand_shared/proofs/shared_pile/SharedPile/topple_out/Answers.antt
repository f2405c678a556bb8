-- A whole pass that has swept until nothing toppled closes the table (`closed_by`). So its counts are the least
-- odometer of the start and the history (`closed_leads`), and the history is told by its receipts (`gathered_record`).
use Rattle.sand_shared.proofs.Common.{ℕ, ◌<◌, List, All, length, sym, ap, ◌∙◌, subst, arith, rules, Receipt, Terms, SharedView, PassView, EachOnce, Tells}
use Rattle.sand_shared.proofs.RecordSums.{LeadsTo}
use Rattle.sand_shared.proofs.LastPileIsSettled.{gathered_seen, gathered_record, closed_by, closed_leads}
use Rattle.sand_shared.proofs.shared_pile.SharedPile.topple_out.Goals as goal

pub fill-requires-clause-inside : goal.fill-requires-clause-inside
fill-requires-clause-inside c =
    let b = closed_by c.self.view_is c.pass.view_is c.pass.invariant c.requires.pass c.requires.whole
    c.close-start.ensures.last c.sweep_out.ensures.view c.sweep_out.ensures.len c.sweep_out.ensures.calm in
    let seen = gathered_seen b.all b.last.stands b.same_rows in
    subst (All (λ (r : Receipt). r.number < length c.args.history.items)) (sym c.requires.receipts)
    (λ k d l. let below = b.all.pass.below k d l in omega arith)

pub fill-requires-clause-once : goal.fill-requires-clause-once
fill-requires-clause-once c = subst EachOnce
    (ap (λ (q : PassView). q.receipts) c.pass.view_is ∙ sym c.requires.receipts) c.pass.invariant.pass.once

pub of_lists-requires : goal.of_lists-requires
of_lists-requires c =
    let b = closed_by c.self.view_is c.pass.view_is c.pass.invariant c.requires.pass c.requires.whole
    c.close-start.ensures.last c.sweep_out.ensures.view c.sweep_out.ensures.len c.sweep_out.ensures.calm in
    let history = c.fill.new.history.items in
    let told = subst (λ (l : List Receipt). Tells l history) c.requires.receipts c.fill.ensures.tells in
    let terms = c.close-start.ensures.terms ∙ ap (λ (w : SharedView). w.terms) c.self.view_is in
    let l = subst (λ (t : Terms). LeadsTo t.start history c.close-start.new.heights.items c.sweep_out.new.counts.items)
    (sym terms) (closed_leads b history (c.fill.ensures.len ∙ c.requires.history) told) in
    record {
      all_sites = l.all_sites;
      limit = l.limit;
      len = (l.heights_each, l.odometer_each);
      settled = l.settled;
    }

pub returns : goal.returns
returns c =
    let b = closed_by c.self.view_is c.pass.view_is c.pass.invariant c.requires.pass c.requires.whole
    c.close-start.ensures.last c.sweep_out.ensures.view c.sweep_out.ensures.len c.sweep_out.ensures.calm in
    let history = c.of_lists.ensures.history in
    gathered_record b.all b.last.stands b.same_rows _ (search rules) (search rules)
    (ap (λ (l : List ℕ). length l) history ∙ c.fill.ensures.len ∙ c.requires.history)
    (subst (λ (z : List Receipt × List ℕ). Tells z.0 z.1) (λ i. (c.requires.receipts i, sym history i)) c.fill.ensures.tells)
    (search rules)
