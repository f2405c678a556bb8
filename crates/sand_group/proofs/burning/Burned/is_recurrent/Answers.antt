use Rattle.sand_group.proofs.Common.{rules, is_in}
use Rattle.sand_group.proofs.burning.Burned.is_recurrent.Goals as goal

pub returns-in-Forbidden : goal.returns-in-Forbidden
returns-in-Forbidden c g s burned =
    let left = rw c.in-Forbidden.is at burned in
    (λ f. search rules, λ r. absurd (r.none (is_in c.in-Forbidden.field-0.items) left.forbidden))
