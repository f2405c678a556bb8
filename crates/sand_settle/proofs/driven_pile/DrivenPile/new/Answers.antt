use Rattle.sand_settle.proofs.Common.{[], sym, subst, IsAfter}
use Rattle.sand_settle.proofs.Drops.{paid_start, after_start}
use Rattle.sand_settle.proofs.driven_pile.DrivenPile.new.Goals as goal

pub of_settled-requires : goal.of_settled-requires
of_settled-requires c = paid_start c.grains.ensures.pile c.in_ok-settled.ensures.record

pub returns-clause-settled : goal.returns-clause-settled
returns-clause-settled c = subst (IsAfter c.args.start.now []) (sym c.in_ok-pile.ensures.settled)
    (after_start c.grains.ensures.pile c.in_ok-settled.ensures.record)
