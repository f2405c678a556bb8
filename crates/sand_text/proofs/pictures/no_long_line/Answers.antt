use Rattle.sand_text.proofs.PictureLines.{no_long_line}
use Rattle.sand_text.proofs.pictures.no_long_line.Goals as goal

pub returns : goal.returns
returns c = no_long_line
