use Rattle.sand_text.proofs.Common.{◌≡◌, ◌≤◌, has_large, most_grains}
use Rattle.sand_text.proofs.Large.{large_from}
use Rattle.sand_text.proofs.bytes.has_large.Given as goal

abbrev pub invariant-loop-byte : goal.invariant-loop-byte
invariant-loop-byte l = record {
  so_far : large_from l.value l.byte-index l.text ≡ has_large l.text;
  bound : l.value ≤ most_grains;
}
