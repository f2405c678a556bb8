use Rattle.sand_text.proofs.Common.{arith, both_ways, err_from_is_err_and, tokens_left, usual}
use Rattle.sand_text.proofs.Lengths.{few_numbers}
use Rattle.sand_text.proofs.Surveying.{at_tokens}
use Rattle.sand_text.proofs.TwoWalks.{one_further, strange_in_first}
use Rattle.sand_text.proofs.two_piles.first_survey.Goals as goal

pub pile-init : goal.pile-init
pile-init c = record {
  underway = c.new-survey.ensures.underway (tokens_left c.args.tokens.now);
  within = λ some. absurd (omega (arith, c.new-survey.ensures.empty.0));
}

pub take-requires : goal.take-requires
take-requires c = grind (arith, usual, few_numbers)

pub pile-preserved : goal.pile-preserved
pile-preserved c =
    let ws = tokens_left c.args.tokens.now in
    let here = at_tokens ws _ _ c.pile.survey c.in-Some.ensures.steps c.pile.invariant.underway in
    let next = c.in_ok-take.ensures.taken ws (tokens_left c.next.new.self) here in
    record {
      underway = next;
      within =
          one_further ws _ (tokens_left c.next.new.self) c.pile.survey c.take.new.self here next c.pile.invariant.within
          (λ full. both_ways c.is_full.result c.pile-test.true (c.is_full.ensures.1 full)) c.in_ok-take.ensures.count;
    }

pub returns-in_err-take-clause-err : goal.returns-in_err-take-clause-err
returns-in_err-take-clause-err c =
    let p = err_from_is_err_and c.from_residual.result c.from_residual.ensures.1 in
    let ws = tokens_left c.args.tokens.now in
    let here = at_tokens ws _ _ c.pile.survey c.in-Some.ensures.steps c.pile.invariant.underway in
    let strange = c.in_err-take.ensures.strange ws (tokens_left c.next.new.self) here in
    rw (p.1, p.2) (λ over.
    strange_in_first over ws _ c.pile.survey c.in_err-take.field-0.0 here c.pile.invariant.within strange)
