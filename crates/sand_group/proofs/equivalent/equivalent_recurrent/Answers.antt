-- What is settled last represents the class of the pile (`equivalent_settles`). A class has one recurrent pile, so a
-- recurrent pile comes back as it is (`equivalent_itself`).
use Rattle.sand_group.proofs.Common.{◌∙◌, ap, PileView, height_of, odometer_of, IsEquivalentRecurrent}
use Rattle.sand_group.proofs.OperationsOnHeights.{equivalent_settles, equivalent_itself}
use Rattle.sand_group.proofs.equivalent.equivalent_recurrent.Goals.{In_ok-settled_together}
use Rattle.sand_group.proofs.equivalent.equivalent_recurrent.Goals as goal

found : (c : In_ok-settled_together)
    → IsEquivalentRecurrent c.args.pile.now.grid (height_of c.args.pile.now) c.in_ok-settled_together.field-0
found c =
    let neutral = c.in_ok-neutral.ensures.settled.2 in
    equivalent_settles c.args.pile.now c.pile.result.now c.into_pile-start.result c.in_ok-settled_together.field-0
    (odometer_of c.in_ok-settle.field-0) (rw c.into_pile-start.ensures c.in_ok-settle.ensures.record.settled)
    (ap (λ (p : PileView). p.grid) c.pile.ensures.value ∙ neutral.grid ∙ c.shape.ensures.value)
    (rw (c.pile.ensures.value, ← c.shape.ensures.value) c.in_ok-neutral.ensures.identity)
    c.in_ok-settled_together.ensures.settled

pub invariant_of-result : goal.invariant_of-result
invariant_of-result c = rw (found c).grid (found c).represents.recurrent

pub returns-clause-equivalent : goal.returns-clause-equivalent
returns-clause-equivalent c = found (goal.at.returns-clause-equivalent c).In_ok-settled_together

pub returns-clause-itself : goal.returns-clause-itself
returns-clause-itself c recurrent =
    equivalent_itself c.args.pile.now c.in_ok-settled_together.field-0 c.shape.ensures.pile recurrent
    (found (goal.at.returns-clause-itself c).In_ok-settled_together)
