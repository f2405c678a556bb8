-- Each place is in the grid or outside (`place_inside`), and four gifts are one toppling (`spread_toppled`). What the
-- sum of the heights loses follows from the balance alone: it falls into the sink (`spread_sum`).
use Rattle.sand_model.proofs.Common.{ℕ, ◌∙◌, arith, length-set}
use Rattle.sand_model.proofs.Neighbours.{place_inside}
use Rattle.sand_model.proofs.Heights.{spread_toppled, spread_sum, toppled_once}
use Rattle.sand_model.proofs.pile.spread.Goals as goal

pub give-requires-clause-inside : goal.give-requires-clause-inside
give-requires-clause-inside c = place_inside c.args.shape c.args.site _ 0 _
    c.neighbours.ensures c.requires.site (length-set _ _ _ ∙ c.requires.len)

pub give-requires-2-clause-inside : goal.give-requires-2-clause-inside
give-requires-2-clause-inside c =
    place_inside c.args.shape c.args.site _ 1 _ c.neighbours.ensures c.requires.site (omega (arith, length-set {A = ℕ}))

pub give-requires-3-clause-inside : goal.give-requires-3-clause-inside
give-requires-3-clause-inside c =
    place_inside c.args.shape c.args.site _ 2 _ c.neighbours.ensures c.requires.site (omega (arith, length-set {A = ℕ}))

pub give-requires-4-clause-inside : goal.give-requires-4-clause-inside
give-requires-4-clause-inside c =
    place_inside c.args.shape c.args.site _ 3 _ c.neighbours.ensures c.requires.site (omega (arith, length-set {A = ℕ}))

pub returns-clause-toppled : goal.returns-clause-toppled
returns-clause-toppled c =
    toppled_once c.args.shape c.args.site _ _
    (spread_toppled c.args.shape c.args.site 1 c.args.heights.now c.give-4.new.heights c.neighbours.result
    c.neighbours.ensures c.requires.site c.requires.len (omega (arith, c.requires.high))
    (λ j.
    omega (arith, c.give.ensures.each j, c.give-2.ensures.each j, c.give-3.ensures.each j, c.give-4.ensures.each j)))

pub returns-clause-total : goal.returns-clause-total
returns-clause-total c =
    spread_sum c.args.shape c.args.site c.args.heights.now c.give-4.new.heights c.requires.site
    c.requires.len (omega (arith, length-set {A = ℕ})) (returns-clause-toppled c)
