use Rattle.sand_text.proofs.Common.{refl, sym, ◌∙◌, err_from_is_err_and, tokens_left, has_large}
use Rattle.sand_text.proofs.TwoPiles.{front_tokens, strange_first, strange_second, plain_two}
use Rattle.sand_text.proofs.two_piles.two_surveys.Goals as goal

pub returns-in_err-first-clause-err : goal.returns-in_err-first-clause-err
returns-in_err-first-clause-err c =
    let p = err_from_is_err_and c.from_residual.result c.from_residual.ensures.1 in
    let strange = rw c.new-tokens.ensures at (c.in_err-first.ensures.err (has_large c.args.text.now)) in
    rw (p.1, p.2) (strange_first c.args.text.now c.in_err-first.field-0.0 strange)

pub returns-in_err-second-clause-err : goal.returns-in_err-second-clause-err
returns-in_err-second-clause-err c =
    let p = err_from_is_err_and c.from_residual-in_err-second.result c.from_residual-in_err-second.ensures.1 in
    let front = front_tokens _ _ _ c.in_ok-first.first c.new-tokens.ensures c.in_ok-first.ensures.ok in
    rw (p.1, p.2) (strange_second c.args.text.now (tokens_left c.first_survey.new.tokens)
    c.in_ok-first.first c.in_err-second.field-0.0 front c.in_err-second.ensures.err)

pub returns-in-Some-clause-err : goal.returns-in-Some-clause-err
returns-in-Some-clause-err c =
    let front = front_tokens _ _ _ c.in_ok-first.first c.new-tokens.ensures c.in_ok-first.ensures.ok in
    plain_two c.args.text.now (tokens_left c.first_survey.new.tokens) c.in_ok-first.first c.in_ok-second.second
    front c.in_ok-second.ensures.ok c.in_ok-second.ensures.plain ∙ rw (sym c.or.ensures ∙ c.in-Some.is) refl

pub returns-in-None-clause-plain : goal.returns-in-None-clause-plain
returns-in-None-clause-plain c =
    let front = front_tokens _ _ _ c.in_ok-first.first c.new-tokens.ensures c.in_ok-first.ensures.ok in
    plain_two c.args.text.now (tokens_left c.first_survey.new.tokens) c.in_ok-first.first c.in_ok-second.second
    front c.in_ok-second.ensures.ok c.in_ok-second.ensures.plain ∙ rw (sym c.or.ensures ∙ c.in-None.is) refl
