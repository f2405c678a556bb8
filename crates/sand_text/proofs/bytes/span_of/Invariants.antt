use Rattle.sand_text.proofs.Common.{◌≡◌, ℕ, ◌<◌, take, get_or, false, digits_value, is_space, digits_len, capped}
use Rattle.sand_text.proofs.bytes.span_of.Given as goal

abbrev pub invariant-loop-len : goal.invariant-loop-len
invariant-loop-len l = record {
  no_space : (k : ℕ) → k < l.len → is_space (get_or l.text k 0) ≡ false;
  digits : l.digits ≡ digits_len (take l.len l.text);
  value : l.value ≡ capped (digits_value 10 (take l.digits l.text));
}
