use Rattle.sand_c.proofs.Common.{ℕ, List, ◌∙◌, ap, arith, length, PileView}
use Rattle.sand_c.proofs.ClassSteps.{recurrent_written}
use Rattle.sand_c.proofs.classes.fire_in_place.Goals as goal

pub returns-clause-class : goal.returns-clause-class
returns-clause-class c =
    let fired = c.in_ok-fired.ensures.fired in
    let heights = c.heights.ensures.value ∙ ap (λ (p : PileView). p.heights) c.pile.ensures.value in
    recurrent_written _ c.args.heights.now c.write_heights.new.heights c.args.firing.now c.write_firing.new.places
    c.in_ok-fired.fired.firing.items c.in_ok-fired.fired.recurrent c.in_ok-fired.ensures.meant fired
    (c.write_heights.ensures.len ∙ c.in_ok-fired.ensures.len)
    (λ i l. rw heights at c.write_heights.ensures.each i
    (omega (arith, l, fired.len, ap (λ (xs : List ℕ). length xs) heights)))
    c.in_ok-fired.ensures.places c.write_firing.ensures.len (rw c.deref.ensures.value at c.write_firing.ensures.written)
