use Rattle.sand_text.proofs.Common.{arith, length-drop, usual}
use Rattle.sand_text.proofs.Taking.{next_of, one_more}
use Rattle.sand_text.proofs.numbers.Numbers.next_heights.Goals as goal
use Rattle.sand_text.proofs.numbers.Numbers.next_heights.Goals.{in-Some, in_default}

pub sites-preserved : goal.sites-preserved
sites-preserved c = grind (arith, usual, one_more, next_of, length-drop)
