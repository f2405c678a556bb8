use Rattle.sand_shared.proofs.Common.{◌∙◌, subst, PassView, IsRecordOf}
use Rattle.sand_shared.proofs.shared_pile.SharedPile.settle.Goals as goal

pub returns-clause-closed : goal.returns-clause-closed
returns-clause-closed c =
    subst (λ (p : PassView). IsRecordOf c.args.self.terms p c.complete.result)
    (c.write_history.ensures.pass ∙ c.settle_rest.ensures.pass ∙ c.pass.view_is) c.complete.ensures.closed
