use Rattle.sand_text.proofs.Common.{◌≡◌, ◌++◌, ◌+◌, ◌-◌, ◌*◌, ◌≤◌, length, vec_len, vec_capacity, rows_text}
use Rattle.sand_text.proofs.rows.push_sites.Given as goal

abbrev pub invariant-rows : goal.invariant-rows
invariant-rows l = record {
  written : l.text.items ++ rows_text (l.shape.height - l.counter) l.shape.width l.rest
      ≡ l.fn.text.items ++ rows_text l.shape.height l.shape.width l.numbers;
  left : length l.rest ≡ (l.shape.height - l.counter) * l.shape.width;
  bound : vec_len l.text + 21 * length l.rest ≤ vec_len l.fn.text + 21 * length l.numbers;
  capacity : vec_capacity l.fn.text ≤ vec_capacity l.text;
}
