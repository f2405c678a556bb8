use Rattle.sand_fronts.proofs.NewPiles.{counts_new}
use Rattle.sand_fronts.proofs.counts.Counts.new.Goals as goal

pub returns-clause-sound : goal.returns-clause-sound
returns-clause-sound c m = (counts_new c.in_ok-whole.whole.items c.in_ok-each.each.items
    c.in_ok-spilled.spilled.items c.args.n m (c.in_ok-whole.ensures.items_if_clones_equal (λ y e. e))
    (c.in_ok-each.ensures.items_if_clones_equal (λ y e. e)) c.in_ok-spilled.ensures.items).0

pub returns-clause-none : goal.returns-clause-none
returns-clause-none c m = (counts_new c.in_ok-whole.whole.items c.in_ok-each.each.items
    c.in_ok-spilled.spilled.items c.args.n m (c.in_ok-whole.ensures.items_if_clones_equal (λ y e. e))
    (c.in_ok-each.ensures.items_if_clones_equal (λ y e. e)) c.in_ok-spilled.ensures.items).1
