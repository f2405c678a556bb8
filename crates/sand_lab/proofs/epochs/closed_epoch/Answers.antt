use Rattle.sand_lab.proofs.Common.{◌≡◌, ℕ, List, vec_len, map, sym, ap, subst, ◌∙◌, PileView, Receipt, PassView, EachOnce, RecordView, quota_of, HasWorked, HavePlaces, IsJournal, flattened, lists, IsClosed}
use Rattle.sand_shared.specs.declared.view.Terms.{Terms}
use Rattle.sand_lab.proofs.EpochIsClosed.{whole, gathered_parts, places, closed_is}
use Rattle.sand_lab.proofs.epochs.closed_epoch.Goals.{After-sweep_on}
use Rattle.sand_lab.proofs.epochs.closed_epoch.Goals as goal

quota : (g : _) (c : After-sweep_on g) → c.in_ok-pile.pile.terms.quota ≡ quota_of c.args.wish
quota g c = ap (λ (t : Terms). t.quota) c.in_ok-pile.ensures.terms ∙ c.quota_of.ensures

-- the sweeps that are left keep what the crew has worked
worked : (g : _) (c : After-sweep_on g) → HasWorked c.in_ok-pile.pile c.args.wish c.args.epoch c.sweep_on.new.self
worked g c =
    c.sweep_on.ensures c.args.wish c.args.epoch
    (c.work_and_make_blank.ensures.crew.worked c.args.epoch c.in_ok-crew.ensures.crew)

pub sweep_on-requires-after_bounds : goal.sweep_on-requires-after_bounds
sweep_on-requires-after_bounds g c κs bounds =
    (c.args.wish, c.args.epoch, c.work_and_make_blank.ensures.crew.worked c.args.epoch c.in_ok-crew.ensures.crew)

pub gather-requires-clause-crew : goal.gather-requires-clause-crew
gather-requires-clause-crew g c = record {
  wish = c.args.wish;
  epoch = c.args.epoch;
  some = c.requires.plan.some_workers;
  worked = worked g (goal.at.gather-requires-clause-crew g c).After-sweep_on;
}

pub settle-requires-clause-whole : goal.settle-requires-clause-whole
settle-requires-clause-whole g c κs bounds =
    let at = (goal.at.settle-requires-clause-whole g c).After-sweep_on in
    whole (quota g at) (worked g at) c.in_ok-parts.ensures.first

pub settle-requires-clause-places : goal.settle-requires-clause-places
settle-requires-clause-places g c κs bounds =
    let at = (goal.at.settle-requires-clause-places g c).After-sweep_on in
    let once : EachOnce c.gather.new.first.receipts =
    subst EachOnce (ap (λ (p : PassView). p.receipts) c.all.view_is) c.all.invariant.pass.once in
    let parts = lists c.in_ok-parts.field-0.parts.items in
    let long = vec_len c.in_ok-blank.blank.journal in
    subst (λ (n : ℕ). HavePlaces n parts long) (sym c.in_ok-blank.ensures.drops)
    (places (quota g at) (worked g at) c.in_ok-parts.ensures.first parts long c.in_ok-parts.ensures.parts
    c.in_ok-blank.ensures.journal once c.requires.plan)

pub settle-requires-clause-parts : goal.settle-requires-clause-parts
settle-requires-clause-parts g c κs bounds =
    let at = (goal.at.settle-requires-clause-parts g c).After-sweep_on in
    gathered_parts (quota g at) (worked g at) c.in_ok-parts.ensures.first
    (lists c.in_ok-parts.field-0.parts.items) c.in_ok-parts.ensures.parts

pub returns-clause-closed : goal.returns-clause-closed
returns-clause-closed g c =
    let at = (goal.at.returns-clause-closed g c).After-sweep_on in
    let start = ap (λ (t : Terms). t.start) c.in_ok-pile.ensures.terms in
    let gathered = c.in_ok-parts.ensures in
    let written = c.in_ok-journal.journal.items in
    let journal = subst (λ (z : ℕ × List (List Receipt)). IsJournal z.0 (flattened z.1) written)
    (λ i. (c.in_ok-blank.ensures.drops i, gathered.parts i)) c.in_ok-journal.ensures.journal in
    let tallies = map (λ ts. ts.items) c.in_ok-parts.field-0.findings.tallies.items in
    let swept = c.in_ok-parts.field-0.findings.swept.items in
    let epoch = closed_is (quota g at) (worked g at) gathered.first c.in_ok-journal.closed written tallies swept journal
    c.in_ok-journal.ensures.closed gathered.tallies gathered.swept in
    record {
      closed = subst (λ (z : PileView × RecordView). IsClosed c.args.wish z.0 c.args.epoch z.1 written tallies swept)
          (λ i. (start i, sym c.in_ok-closed.ensures.first i)) epoch;
      shown = c.in_ok-closed.ensures.second ∙ sym c.in_ok-closed.ensures.first;
    }
