use Rattle.std.proofs.Common.{rules}
use Rattle.sand_commands.proofs.faults.status.Goals as goal

pub returns-in-Clash : goal.returns-in-Clash
returns-in-Clash c = search rules
