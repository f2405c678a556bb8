use Rattle.sand_text.proofs.DigitRuns.{numbers_are_runs}
use Rattle.sand_text.proofs.laws.numbers_are_runs.Goals as goal

pub returns : goal.returns
returns c = numbers_are_runs
