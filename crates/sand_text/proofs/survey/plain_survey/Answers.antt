use Rattle.sand_text.proofs.Common.{arith, sym, ◌∙◌, ap, refl, err_from_is_err_and, tokens_left, tokens}
use Rattle.sand_text.proofs.Lengths.{few_numbers}
use Rattle.sand_text.proofs.Readings.{plain_is, strange_text}
use Rattle.sand_text.proofs.Surveying.{at_tokens}
use Rattle.sand_text.proofs.survey.plain_survey.Goals as goal

pub loop-token-init : goal.loop-token-init
loop-token-init c = at_tokens _ _ _ _
    (sym (ap tokens_left c.into_iter-token-iterator.ensures.into_iter_gives ∙ c.new-token-items.ensures))
    (c.new-survey.ensures.underway (tokens c.args.text.now))

pub take-requires : goal.take-requires
take-requires c = omega (arith, c.loop-token.invariant.counted.within, few_numbers 0 c.args.text.now)

pub loop-token-preserved : goal.loop-token-preserved
loop-token-preserved c = c.in_ok-take.ensures.taken (tokens c.args.text.now)
    (tokens_left c.next.new.self) (at_tokens _ _ _ _ c.in-Some.ensures.steps c.loop-token.invariant)

pub returns-in_err-take-clause-err : goal.returns-in_err-take-clause-err
returns-in_err-take-clause-err c =
    let p = err_from_is_err_and c.from_residual.result c.from_residual.ensures.1 in
    let strange = c.in_err-take.ensures.strange (tokens c.args.text.now) (tokens_left c.next.new.self)
    (at_tokens _ _ _ _ c.in-Some.ensures.steps c.loop-token.invariant) in
    rw (p.1, p.2) (strange_text c.args.text.now c.loop-token.survey c.in_err-take.field-0.0 strange)

pub returns-in-Some-large-clause-err : goal.returns-in-Some-large-clause-err
returns-in-Some-large-clause-err c =
    plain_is c.args.text.now c.loop-token.survey (at_tokens _ _ _ _ c.in-None.ensures.steps.0 c.loop-token.invariant)
    ∙ rw (c.in-Some-large.is) refl

pub returns-in-None-large-clause-ok : goal.returns-in-None-large-clause-ok
returns-in-None-large-clause-ok c = at_tokens _ _ _ _ c.in-None.ensures.steps.0 c.loop-token.invariant

pub returns-in-None-large-clause-plain : goal.returns-in-None-large-clause-plain
returns-in-None-large-clause-plain c =
    plain_is c.args.text.now c.loop-token.survey (at_tokens _ _ _ _ c.in-None.ensures.steps.0 c.loop-token.invariant)
    ∙ rw (c.in-None-large.is) refl
