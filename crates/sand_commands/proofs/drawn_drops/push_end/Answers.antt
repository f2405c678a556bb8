use Rattle.std.proofs.Common.{rules}
use Rattle.sand_commands.proofs.drawn_drops.push_end.Goals as goal

pub returns-in-All-clause-ok : goal.returns-in-All-clause-ok
returns-in-All-clause-ok g c = search rules
