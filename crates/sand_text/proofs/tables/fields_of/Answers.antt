use Rattle.std.proofs.Common.{rules}
use Rattle.sand_text.proofs.tables.fields_of.Goals as goal

pub returns : goal.returns
returns c = search rules
