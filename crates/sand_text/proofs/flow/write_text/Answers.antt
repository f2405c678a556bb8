use Rattle.sand_text.proofs.Common.{arith, take-add, Appends-trans, usual}
use Rattle.sand_text.proofs.flow.write_text.Goals as goal

pub writing-preserved : goal.writing-preserved
writing-preserved g c = grind (arith, usual, take-add, Appends-trans)
