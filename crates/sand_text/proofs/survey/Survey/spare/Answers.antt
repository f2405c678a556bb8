use Rattle.std.proofs.Common.{rules}
use Rattle.sand_text.proofs.survey.Survey.spare.Goals as goal

pub returns-clause-spared : goal.returns-clause-spared
returns-clause-spared c = search rules
