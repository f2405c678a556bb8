use Rattle.std.proofs.Common.{rules}
use Rattle.sand_text.proofs.rows.separator.Goals as goal

pub returns-then-index-count : goal.returns-then-index-count
returns-then-index-count c = search rules
