use Rattle.std.proofs.Common.{rules}
use Rattle.sand_cli.proofs.fault.WordsFaultFromClapError.from.Goals as goal

pub returns-in-OutOfMemory : goal.returns-in-OutOfMemory
returns-in-OutOfMemory c = search rules
