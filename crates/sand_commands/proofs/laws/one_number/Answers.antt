use Rattle.sand_commands.proofs.OneNumber.{one_number}
use Rattle.sand_commands.proofs.laws.one_number.Goals as goal

pub returns : goal.returns
returns c = one_number
