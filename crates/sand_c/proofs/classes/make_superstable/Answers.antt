use Rattle.std.proofs.Common.{ℕ, List, ◌∙◌, ap, arith, length}
use Rattle.sand_c.proofs.ClassSteps.{superstable_written, low_if_superstable}
use Rattle.sand_c.proofs.classes.make_superstable.Goals as goal

pub write_heights-requires-clause-low : goal.write_heights-requires-clause-low
write_heights-requires-clause-low c =
    low_if_superstable _ _ c.in_ok-pile.pile c.heights.result.now c.in_ok-pile.ensures.superstable
    c.heights.ensures.value

pub returns-clause-superstable : goal.returns-clause-superstable
returns-clause-superstable c =
    let heights = c.heights.ensures.value in
    superstable_written _ c.args.heights.now c.write_heights.new.heights c.in_ok-pile.pile c.in_ok-pile.ensures.meant
    c.in_ok-pile.ensures.superstable (c.write_heights.ensures.len ∙ c.in_ok-pile.ensures.len)
    (λ i l. rw heights at c.write_heights.ensures.each i
    (omega (arith, l, c.in_ok-pile.ensures.superstable.len, ap (λ (xs : List ℕ). length xs) heights)))
