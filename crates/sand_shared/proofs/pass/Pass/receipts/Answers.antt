use Rattle.sand_shared.proofs.Common.{ap, ◌∙◌, subst, PassView, EachOnce}
use Rattle.sand_shared.proofs.pass.Pass.receipts.Goals as goal

pub returns-clause-each_once : goal.returns-clause-each_once
returns-clause-each_once c = subst (λ (p : PassView). EachOnce p.receipts)
    (ap (λ z. z.bare) c.self-inside.view_is ∙ c.self.view_is) c.self-inside.invariant.pass.once
