use Rattle.sand_group.proofs.Common.{rules, is_in}
use Rattle.sand_group.proofs.group.Recurrent.from_pile.Goals as goal

pub returns-in-Forbidden-clause-not_recurrent : goal.returns-in-Forbidden-clause-not_recurrent
returns-in-Forbidden-clause-not_recurrent c = λ same recurrent.
    let greatest = rw c.in-Forbidden.is at c.in_ok-burn.ensures.burned in
    recurrent.none (is_in c.in-Forbidden.field-0.items) greatest.forbidden

pub returns-in-Forbidden-clause-unstable : goal.returns-in-Forbidden-clause-unstable
returns-in-Forbidden-clause-unstable c = search rules
