use Rattle.std.proofs.Common.{arith}
use Rattle.sand_group.proofs.OperationsOnHeights.{few_grains}
use Rattle.sand_group.proofs.group.settled.Goals as goal

pub from_vec-requires-clause-limit : goal.from_vec-requires-clause-limit
from_vec-requires-clause-limit c =
    omega (arith, few_grains c.args.shape c.args.heights.items c.sites.ensures.sides c.requires.len c.requires.low)
