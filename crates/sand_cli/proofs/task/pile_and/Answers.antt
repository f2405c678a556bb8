use Rattle.std.proofs.Common.{rules}
use Rattle.sand_cli.proofs.task.pile_and.Goals as goal

pub returns : goal.returns
returns c = search rules
