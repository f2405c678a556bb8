use Rattle.std.proofs.Common.{rules}
use Rattle.sand_text.proofs.places.column.Goals as goal

pub returns : goal.returns
returns c = search rules
