use Rattle.std.proofs.Common.{arith}
use Rattle.sand_shared.proofs.RecordSums.{small_topplings}
use Rattle.sand_shared.proofs.record.Record.topplings.Goals as goal

pub returns-clause-bound : goal.returns-clause-bound
returns-clause-bound c =
    let few = small_topplings _ c.self.invariant in
    omega arith
