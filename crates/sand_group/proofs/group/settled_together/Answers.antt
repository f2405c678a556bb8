-- Two stable piles together are far below the limit (`together_small`), so only an allocation can fail.
use Rattle.sand_group.proofs.Common.{arith, subst, sym, ap, ◌∙◌, ◌+◌, Err, height_of, SettlesTo}
use Rattle.sand_group.proofs.OperationsOnHeights.{together_small, together_settles}
use Rattle.sand_group.proofs.group.settled_together.Goals as goal

pub returns-clause-settled : goal.returns-clause-settled
returns-clause-settled c =
    subst (SettlesTo c.args.a.now.grid (λ i. height_of c.args.a.now i + height_of c.args.b.now i)) (sym c.into_pile.ensures)
    (together_settles c.args.a.now c.args.b.now c.in-Ok.both c.in_ok-settle.field-0 c.in-Ok.ensures.grid
    c.in-Ok.ensures.heights c.in_ok-settle.ensures.record)

pub unreachable-requires : goal.unreachable-requires
unreachable-requires c =
    let refused = c.in-Err-TooManyGrains.is ∙ ap Err c.in-Err-TooManyGrains.field-0-is in
    let past = c.plus.ensures.limit.0 refused in
    let small = together_small c.args.a.now c.args.b.now c.grains.ensures.pile c.grains-2.ensures.pile
    c.requires.one_grid c.requires.low_a c.requires.low_b in
    absurd (omega arith)
