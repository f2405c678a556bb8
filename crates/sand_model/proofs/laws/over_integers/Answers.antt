use Rattle.sand_model.proofs.OverIntegers.{toppled_is_integers, stabilises_is_integers, settled_equivalent}
use Rattle.sand_model.proofs.laws.over_integers.Goals as goal

pub returns-clause-toppled : goal.returns-clause-toppled
returns-clause-toppled c = toppled_is_integers

pub returns-clause-stabilises : goal.returns-clause-stabilises
returns-clause-stabilises c = stabilises_is_integers

pub returns-clause-equivalent : goal.returns-clause-equivalent
returns-clause-equivalent c = settled_equivalent
