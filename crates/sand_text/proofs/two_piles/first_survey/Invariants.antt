use Rattle.sand_text.proofs.Common.{length, tokens_left, IsSurvey, IsWithinPile}
use Rattle.sand_text.proofs.two_piles.first_survey.Given as goal

abbrev pub invariant-pile : goal.invariant-pile
invariant-pile l = record {
  underway : IsSurvey (tokens_left l.fn.tokens) (tokens_left l.tokens) l.survey;
  within : IsWithinPile l.survey;
}

abbrev pub decreases-pile : goal.decreases-pile
decreases-pile l = length (tokens_left l.tokens)
