use Rattle.sand_text.proofs.Common.{arith, inl, refl, err_from_is_err_and, tokens, usual}
use Rattle.sand_text.specs.Reading.{front_of, drops_of}
use Rattle.sand_text.proofs.Shapes.{count_at_end}
use Rattle.sand_text.proofs.Readings.{no_site_is, drop_count, one_each}
use Rattle.sand_text.proofs.piles.shape_before_drops.Goals as goal

pub returns-in_err-survey-clause-err : goal.returns-in_err-survey-clause-err
unfolding drops_of front_of
returns-in_err-survey-clause-err c = grind (arith, usual, err_from_is_err_and)

pub returns-in_err-shape-clause-err : goal.returns-in_err-shape-clause-err
unfolding drops_of front_of
returns-in_err-shape-clause-err c = grind (arith, usual, err_from_is_err_and)

pub overflow_sub-result : goal.overflow_sub-result
overflow_sub-result c =
    let shaped = c.in_ok-shape.ensures.ok (tokens c.args.text.now) _ c.in_ok-survey.ensures.ok (inl refl) in
    omega (arith, shaped.enough, count_at_end (tokens c.args.text.now) c.in_ok-survey.survey c.in_ok-survey.ensures.ok)

pub overflow_sub-result-in-None : goal.overflow_sub-result-in-None
overflow_sub-result-in-None c =
    let shaped = c.in_ok-shape.ensures.ok (tokens c.args.text.now) _ c.in_ok-survey.ensures.ok (inl refl) in
    omega (
      arith,
      shaped.enough,
      c.sites.ensures.value,
      count_at_end (tokens c.args.text.now) c.in_ok-survey.survey c.in_ok-survey.ensures.ok,
    )

pub returns-in-Some-clause-err : goal.returns-in-Some-clause-err
unfolding drops_of front_of
returns-in-Some-clause-err c = grind (arith, usual, no_site_is)

pub returns-in-None-clause-drops : goal.returns-in-None-clause-drops
unfolding drops_of front_of
returns-in-None-clause-drops c = grind (arith, usual, no_site_is)

pub returns-in-None-clause-enough : goal.returns-in-None-clause-enough
returns-in-None-clause-enough c =
    (c.in_ok-shape.ensures.ok (tokens c.args.text.now) _ c.in_ok-survey.ensures.ok (inl refl)).enough

pub returns-in-None-clause-len : goal.returns-in-None-clause-len
returns-in-None-clause-len c =
    let shaped = c.in_ok-shape.ensures.ok (tokens c.args.text.now) _ c.in_ok-survey.ensures.ok (inl refl) in
    one_each _ _ (tokens c.args.text.now) c.in_ok-survey.survey c.in_ok-shape.shape shaped

pub returns-in-None-clause-grains : goal.returns-in-None-clause-grains
returns-in-None-clause-grains c =
    let shaped = c.in_ok-shape.ensures.ok (tokens c.args.text.now) _ c.in_ok-survey.ensures.ok (inl refl) in
    (shaped.grains, shaped.limit)

pub returns-in-None-clause-count : goal.returns-in-None-clause-count
returns-in-None-clause-count c = grind (arith, usual, drop_count)
