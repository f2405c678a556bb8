use Rattle.sand_desk.proofs.OneText.{one_text}
use Rattle.sand_desk.proofs.laws.one_lab_text.Goals as goal

pub returns : goal.returns
returns c = one_text c.one_outcome.ensures
