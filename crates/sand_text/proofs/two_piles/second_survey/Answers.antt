use Rattle.sand_text.proofs.Common.{arith, ap, sym, ◌∙◌, err_from_is_err_and, tokens_left, has_large, usual}
use Rattle.sand_text.proofs.Lengths.{few_numbers}
use Rattle.sand_text.proofs.Surveying.{at_tokens}
use Rattle.sand_text.proofs.TwoWalks.{barred, strange_in_second, plain_second, still_open}
use Rattle.sand_text.proofs.two_piles.second_survey.Goals as goal

pub loop-token-init : goal.loop-token-init
loop-token-init c = record {
  underway = at_tokens _ _ _ _ (sym (ap tokens_left c.into_iter-token-iterator.ensures.into_iter_gives))
      (c.new-survey.ensures.underway (tokens_left c.args.tokens));
  barred = λ over. c.new-survey.ensures.empty.1;
}

pub returns-in-Some-barred_at-clause-err : goal.returns-in-Some-barred_at-clause-err
returns-in-Some-barred_at-clause-err c =
    let ws = tokens_left c.args.tokens in
    let here = at_tokens ws _ _ c.loop-token.survey c.in-Some.ensures.steps c.loop-token.invariant.underway in
    barred (has_large c.args.text.now) ws _ c.loop-token.survey c.in-Some.token c.in-Some-barred_at.at
    here c.loop-token.invariant.barred (sym c.barred_at.ensures ∙ c.in-Some-barred_at.is)

pub take-requires : goal.take-requires
take-requires c = grind (arith, usual, few_numbers)

pub loop-token-preserved : goal.loop-token-preserved
loop-token-preserved c =
    let ws = tokens_left c.args.tokens in
    let here = at_tokens ws _ _ c.loop-token.survey c.in-Some.ensures.steps c.loop-token.invariant.underway in
    record {
      underway = c.in_ok-take.ensures.taken ws (tokens_left c.next.new.self) here;
      barred = λ over. still_open (has_large c.args.text.now) c.in-Some.token
          c.loop-token.survey.edge c.take.new.self.edge (sym c.barred_at.ensures ∙ c.in_default.is)
          over (c.loop-token.invariant.barred over) c.in_ok-take.ensures.edge;
    }

pub returns-in_err-take-clause-err : goal.returns-in_err-take-clause-err
returns-in_err-take-clause-err c =
    let p = err_from_is_err_and c.from_residual.result c.from_residual.ensures.1 in
    let ws = tokens_left c.args.tokens in
    let here = at_tokens ws _ _ c.loop-token.survey c.in-Some.ensures.steps c.loop-token.invariant.underway in
    let strange = c.in_err-take.ensures.strange ws (tokens_left c.next.new.self) here in
    rw (p.1, p.2) (strange_in_second (has_large c.args.text.now) ws c.loop-token.survey
    c.in_err-take.field-0.0 c.loop-token.invariant.barred strange)

pub returns-clause-plain : goal.returns-clause-plain
returns-clause-plain c = grind (arith, usual, plain_second, at_tokens, barred)
