use Rattle.std.proofs.Common.{rules}
use Rattle.sand_text.proofs.runs.push_journal_line.Goals as goal

pub returns : goal.returns
returns c = search rules
