use Rattle.std.proofs.Common.{rules}
use Rattle.sand_text.proofs.survey.Survey.is_full.Goals as goal

pub returns-then-contains-2 : goal.returns-then-contains-2
returns-then-contains-2 c = search rules
