use Rattle.std.proofs.Common.{arith}
use Rattle.sand_tiles.proofs.Ones.{count_ones_of, few_ones}
use Rattle.sand_tiles.proofs.counting.size.Goals as goal

pub returns-clause-value : goal.returns-clause-value
returns-clause-value c = omega (arith, c.from.ensures, count_ones_of c.args.set (omega arith))

pub returns-clause-limit : goal.returns-clause-limit
returns-clause-limit c =
    let few = few_ones c.args.set in
    omega (arith, c.from.ensures, count_ones_of c.args.set (omega arith))
