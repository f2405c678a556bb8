use Rattle.sand_text.proofs.Common.{arith, refl, err_from_is_err_and, tokens, usual}
use Rattle.sand_text.specs.Reading.{front_of, pile_of}
use Rattle.sand_text.proofs.Readings.{one_each}
use Rattle.sand_text.proofs.piles.shape_of.Goals as goal

pub returns-in_err-survey-clause-err : goal.returns-in_err-survey-clause-err
unfolding pile_of front_of
returns-in_err-survey-clause-err c = grind (arith, usual, err_from_is_err_and)

pub returns-in_err-shape-clause-err : goal.returns-in_err-shape-clause-err
unfolding pile_of front_of
returns-in_err-shape-clause-err c = grind (arith, usual, err_from_is_err_and)

pub returns-clause-pile : goal.returns-clause-pile
unfolding pile_of front_of
returns-clause-pile c = grind (arith, usual)

pub returns-clause-enough : goal.returns-clause-enough
returns-clause-enough c = (c.in_ok-shape.ensures.ok (tokens c.args.text.now) _ c.in_ok-survey.ensures.ok refl).enough

pub returns-clause-len : goal.returns-clause-len
returns-clause-len c =
    let shaped = c.in_ok-shape.ensures.ok (tokens c.args.text.now) _ c.in_ok-survey.ensures.ok refl in
    one_each _ _ (tokens c.args.text.now) c.in_ok-survey.survey c.in_ok-shape.shape shaped

pub returns-clause-grains : goal.returns-clause-grains
returns-clause-grains c =
    let shaped = c.in_ok-shape.ensures.ok (tokens c.args.text.now) _ c.in_ok-survey.ensures.ok refl in
    (shaped.grains, shaped.limit)
