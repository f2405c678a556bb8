use Rattle.sand_text.proofs.Common.{◌≡◌, ◌++◌, ◌+◌, ◌*◌, ◌≤◌, drop, vec_len, vec_capacity, row_text}
use Rattle.sand_text.proofs.rows.push_row.Given as goal

abbrev pub invariant-loop-index : goal.invariant-loop-index
invariant-loop-index l = record {
  written : l.text.items ++ row_text (drop l.index l.numbers) ≡ l.fn.text.items ++ row_text l.numbers;
  bound : vec_len l.text ≤ vec_len l.fn.text + 21 * l.index;
  capacity : vec_capacity l.fn.text ≤ vec_capacity l.text;
}
