use Rattle.sand_text.proofs.Common.{tokens_left, tokens, IsSurvey}
use Rattle.sand_text.proofs.survey.plain_survey.Given as goal

abbrev pub invariant-loop-token : goal.invariant-loop-token
invariant-loop-token l = IsSurvey (tokens l.text) (tokens_left l.token-iterator) l.survey
