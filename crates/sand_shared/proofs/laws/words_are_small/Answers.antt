use Rattle.sand_shared.proofs.Lawfulness.{few_present, few_drawn}
use Rattle.sand_shared.proofs.laws.words_are_small.Goals as goal

pub returns-clause-grains : goal.returns-clause-grains
returns-clause-grains c = few_present

pub returns-clause-draws : goal.returns-clause-draws
returns-clause-draws c = few_drawn
