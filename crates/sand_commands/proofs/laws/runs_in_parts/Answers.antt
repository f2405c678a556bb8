use Rattle.sand_commands.proofs.RunsInParts.{runs_in_parts}
use Rattle.sand_commands.proofs.laws.runs_in_parts.Goals as goal

pub returns : goal.returns
returns c = runs_in_parts
