use Rattle.std.proofs.Common.{rules}
use Rattle.sand_commands.proofs.pile_commands.settle_output.Goals as goal

pub returns-in-Pile-clause-text : goal.returns-in-Pile-clause-text
returns-in-Pile-clause-text c = search rules
