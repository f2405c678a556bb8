use Rattle.sand_text.specs.Pictures.{lines_text, pgm_text_of}
use Rattle.sand_text.proofs.Chunks.{IsBegun}
use Rattle.sand_text.proofs.pictures.pgm_text.Given as goal

abbrev pub invariant-loop-row : goal.invariant-loop-row
invariant-loop-row l = IsBegun lines_text l.pile.grid.width l.row-iterator l.text.items (pgm_text_of l.pile)
