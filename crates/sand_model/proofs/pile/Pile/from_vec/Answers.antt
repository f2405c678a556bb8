use Rattle.std.proofs.Common.{arith}
use Rattle.std.proofs.lemmas.Grind.{common_steps}
use Rattle.sand_model.proofs.Bounds.{limit_is_low}
use Rattle.sand_model.proofs.pile.Pile.from_vec.Goals as goal

pub overflow_add-grains : goal.overflow_add-grains
overflow_add-grains c = grind (arith, common_steps, limit_is_low c.args.shape)
