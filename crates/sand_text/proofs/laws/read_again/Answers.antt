use Rattle.sand_text.proofs.Again.{again}
use Rattle.sand_text.proofs.laws.read_again.Goals as goal

pub returns : goal.returns
returns c = again
