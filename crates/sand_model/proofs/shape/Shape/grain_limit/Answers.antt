use Rattle.sand_model.proofs.Common.{◌+◌, ◌*◌, ◌/◌, ◌∙◌, ap, sym, arith, min, Grid}
use Rattle.sand_model.specs.Piles.{most_grains, heaviest}
use Rattle.sand_model.proofs.Bounds.{limit_is_high}
use Rattle.sand_model.proofs.shape.Shape.grain_limit.Goals as goal

pub returns-then-self-le-FULL_ROWS-clause-value : goal.returns-then-self-le-FULL_ROWS-clause-value
returns-then-self-le-FULL_ROWS-clause-value c =
    let height = ap (λ (g : Grid). g.height) c.self.view_is in
    sym (limit_is_high c.args.self (omega (arith, c.if-self-le-FULL_ROWS.true)))

pub returns-clause-value : goal.returns-clause-value
unfolding heaviest
returns-clause-value c = c.min.ensures
    ∙ ap (λ (g : Grid). min most_grains (144115188075855871 / ((g.height + 1) * (g.height + 1)))) c.self.view_is
