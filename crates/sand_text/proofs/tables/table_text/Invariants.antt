use Rattle.std.proofs.Common.{◌≡◌, ◌++◌, drop}
use Rattle.sand_text.specs.Tables.{entries_text, table_text_of}
use Rattle.sand_text.proofs.tables.table_text.Given as goal

abbrev pub invariant-loop-number : goal.invariant-loop-number
invariant-loop-number l = l.text.items ++ entries_text (drop l.number-index l.rows) ≡ table_text_of l.rows
