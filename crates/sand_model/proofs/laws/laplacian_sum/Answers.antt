use Rattle.sand_model.proofs.Sandpile.{laplacian_sum}
use Rattle.sand_model.proofs.OverIntegers.{laplacian_sum_over_integers}
use Rattle.sand_model.proofs.laws.laplacian_sum.Goals as goal

pub returns-clause-natural : goal.returns-clause-natural
returns-clause-natural c = laplacian_sum

pub returns-clause-whole : goal.returns-clause-whole
returns-clause-whole c = laplacian_sum_over_integers
