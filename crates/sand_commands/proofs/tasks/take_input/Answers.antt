use Rattle.std.proofs.Common.{rules}
use Rattle.sand_commands.proofs.tasks.take_input.Goals as goal

pub returns-in-Identity-clause-taken : goal.returns-in-Identity-clause-taken
returns-in-Identity-clause-taken g c = search rules
