use Rattle.std.proofs.Common.{inr, rules}
use Rattle.sand_c.specs.declared.faults.Fault.TheVariants.{Empty}
use Rattle.sand_c.proofs.passing.sandpile_pass_settle.Goals as goal

pub returns-in_default-clause-answer : goal.returns-in_default-clause-answer
returns-in_default-clause-answer c = inr (Empty, c.number.ensures, search rules)
