use Rattle.sand_settle.proofs.Common.{◌≡◌, refl, subst, ap, DrivenView, driven_view, IsPaid, Drops}
use Rattle.sand_settle.proofs.Drops.{kept_or_new, paid_after, after_drop}
use Rattle.sand_settle.proofs.one_pile.OnePile.drop_at.Goals.{After-replace_with-driven}
use Rattle.sand_settle.proofs.one_pile.OnePile.drop_at.Goals as goal

dropped : (c : After-replace_with-driven) → Drops (driven_view c.self.inside.settled c.self.inside.number) c.args.site
    c.replace_with-driven.result.0
dropped c = subst (λ (v : DrivenView). Drops v c.args.site c.replace_with-driven.result.0)
    (kept_or_new (λ v. c.in_ok-driven.driven ≡ v) c.self.inside.driven c.self.invariant c.in_ok-driven.ensures.driven)
    c.replace_with-driven.ensures.1.0

pub invariant_of-self-2 : goal.invariant_of-self-2
invariant_of-self-2 c =
    let drop = dropped (goal.at.invariant_of-self-2 c).After-replace_with-driven in
    let same = c.replace_with-driven.ensures.0 in
    record {
      paid = subst IsPaid (ap (λ (v : DrivenView). v.settled) same)
          (paid_after c.self.invariant.paid drop.inside drop.room drop.settled);
      same = rw c.tally-self-inside.ensures same;
      made = λ l. refl;
    }

pub returns-clause-drops : goal.returns-clause-drops
returns-clause-drops c =
    let drop = dropped (goal.at.returns-clause-drops c).After-replace_with-driven in
    rw (← c.self.view_is, c.tally-self-inside.ensures)
    (subst (Drops _ c.args.site) c.replace_with-driven.ensures.0 drop)

pub returns-clause-after : goal.returns-clause-after
returns-clause-after c start history after =
    after_drop start history c.args.site c.args.self.now _ (returns-clause-drops c) after
