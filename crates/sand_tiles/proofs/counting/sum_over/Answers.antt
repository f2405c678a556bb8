use Rattle.std.proofs.Common.{arith}
use Rattle.sand_tiles.proofs.Ones.{ones_of_sum}
use Rattle.sand_tiles.proofs.counting.sum_over.Goals as goal

pub returns-clause-value : goal.returns-clause-value
returns-clause-value c =
    let all = ones_of_sum c.args.numbers.now.low c.args.numbers.now.high c.args.numbers.now.due c.args.set in
    omega (arith, c.size.ensures.value, c.size-2.ensures.value, c.size-3.ensures.value)
