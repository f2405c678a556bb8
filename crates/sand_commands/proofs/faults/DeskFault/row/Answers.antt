use Rattle.std.proofs.Common.{rules}
use Rattle.sand_commands.proofs.faults.DeskFault.row.Goals as goal

pub returns-in-Narrow-clause-name : goal.returns-in-Narrow-clause-name
returns-in-Narrow-clause-name c = search rules
