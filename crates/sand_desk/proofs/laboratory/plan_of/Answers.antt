use Rattle.std.proofs.Common.{rules}
use Rattle.sand_desk.proofs.laboratory.plan_of.Goals as goal

pub returns : goal.returns
returns c = search rules
