use Rattle.std.proofs.Common.{rules}
use Rattle.sand_settle.proofs.one_pile.OnePile.is_full.Goals as goal

pub returns-clause-full : goal.returns-clause-full
returns-clause-full c = search rules
