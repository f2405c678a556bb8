use Rattle.sand_text.proofs.Common.{arith, ◌∙◌, sym, usual}
use Rattle.sand_text.proofs.Shapes.{wrong_count, too_many, shaped}
use Rattle.sand_text.proofs.survey.Survey.shape.Goals as goal

pub returns-then-not-is_count-clause-err : goal.returns-then-not-is_count-clause-err
returns-then-not-is_count-clause-err c = grind (arith, usual, wrong_count)

pub returns-then-self-gt-GRAIN_LIMIT-clause-err : goal.returns-then-self-gt-GRAIN_LIMIT-clause-err
returns-then-self-gt-GRAIN_LIMIT-clause-err c = grind (arith, usual, too_many)

pub returns-clause-ok : goal.returns-clause-ok
returns-clause-ok c = λ ws rest h ends.
    let right = rw (c.sites.ensures.value) at (sym c.is_count.ensures ∙ c.if-not-is_count.false) in
    shaped c.args.last c.args.end ws rest c.args.self.now h ends
    c.in_ok-shape.shape c.if-self-lt2.false c.in_ok-shape.ensures right c.if-self-gt-GRAIN_LIMIT.false
