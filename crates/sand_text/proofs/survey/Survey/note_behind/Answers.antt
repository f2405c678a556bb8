use Rattle.std.proofs.Common.{rules}
use Rattle.sand_text.proofs.survey.Survey.note_behind.Goals as goal

pub returns-then-index-sites : goal.returns-then-index-sites
returns-then-index-sites c = search rules
