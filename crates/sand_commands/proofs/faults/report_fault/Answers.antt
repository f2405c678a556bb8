use Rattle.std.proofs.Common.{rules}
use Rattle.sand_commands.proofs.faults.report_fault.Goals as goal

pub returns-clause-status : goal.returns-clause-status
returns-clause-status g c = search rules
