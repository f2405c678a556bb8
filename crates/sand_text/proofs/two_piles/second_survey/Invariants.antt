use Rattle.sand_text.proofs.Common.{◌≡◌, true, Open, tokens_left, has_large, IsSurvey}
use Rattle.sand_text.proofs.two_piles.second_survey.Given as goal

abbrev pub invariant-loop-token : goal.invariant-loop-token
invariant-loop-token l = record {
  underway : IsSurvey (tokens_left l.fn.tokens) (tokens_left l.token-iterator) l.survey;
  barred : has_large l.text ≡ true → l.survey.edge ≡ Open;
}
