use Rattle.sand_tiles.proofs.Common.{arith, le_or_l, le_or_r}
use Rattle.sand_tiles.proofs.visiting.visit_pair.Goals as goal

pub end-requires : goal.end-requires
end-requires c = omega (arith, le_or_l, c.rounds-test.false)

pub end-requires-2 : goal.end-requires-2
end-requires-2 c = omega (arith, le_or_r, c.rounds-test.false)
