use Rattle.sand_text.proofs.Common.{arith, ◌∙◌, usual}
use Rattle.sand_text.proofs.Large.{large_start, one_byte, found_large, none_large}
use Rattle.sand_text.proofs.bytes.has_large.Goals as goal

pub loop-byte-init : goal.loop-byte-init
loop-byte-init c = record {
  so_far = large_start c.args.text.now;
  bound = omega arith;
}

pub loop-byte-preserved : goal.loop-byte-preserved
loop-byte-preserved c = record {
  so_far = one_byte c.args.text.now c.loop-byte.byte-index c.loop-byte.value c.run_value-value.result
      c.loop-byte-test.true c.loop-byte.invariant.bound c.run_value-value.ensures c.if-value-gt-GRAIN_LIMIT.false
      ∙ c.loop-byte.invariant.so_far;
  bound = c.if-value-gt-GRAIN_LIMIT.false;
}

pub returns-then-value-gt-GRAIN_LIMIT : goal.returns-then-value-gt-GRAIN_LIMIT
returns-then-value-gt-GRAIN_LIMIT c = grind (arith, usual, found_large)

pub returns : goal.returns
returns c = grind (arith, usual, none_large)
