use Rattle.sand_text.proofs.Common.{◌++◌, row_text, lines_text}
use Rattle.sand_text.proofs.Chunks.{IsBegun}
use Rattle.sand_text.proofs.pictures.push_lines.Given as goal

abbrev pub invariant-loop-line : goal.invariant-loop-line
invariant-loop-line l = IsBegun row_text 35 l.line-iterator l.text.items (l.fn.text.items ++ lines_text l.row)
