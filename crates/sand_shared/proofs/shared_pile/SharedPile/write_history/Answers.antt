use Rattle.sand_shared.proofs.Common.{sym, ap, ◌∙◌, subst, PassView, EachOnce}
use Rattle.sand_shared.proofs.shared_pile.SharedPile.write_history.Goals as goal

pub fill-requires-clause-once : goal.fill-requires-clause-once
fill-requires-clause-once c = subst EachOnce
    (ap (λ (v : PassView). v.receipts) c.pass.view_is ∙ sym c.requires.receipts) c.pass.invariant.pass.once
