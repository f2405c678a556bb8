use Rattle.sand_text.proofs.StrangeBytes.{strange_byte}
use Rattle.sand_text.proofs.laws.strange_byte.Goals as goal

pub returns : goal.returns
returns c = strange_byte
