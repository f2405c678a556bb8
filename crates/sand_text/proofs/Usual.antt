-- What most proofs here use: the usual steps, and tests on numbers.
use Rattle.std.proofs.lemmas.Bool.Decides.{nat_tests}
use Rattle.std.proofs.lemmas.Grind.{common_steps}

pub ruleset usual = (common_steps, nat_tests)
