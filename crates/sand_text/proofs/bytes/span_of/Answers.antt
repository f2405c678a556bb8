use Rattle.sand_text.proofs.Common.{arith, below_more, sym, ◌∙◌, usual}
use Rattle.sand_text.proofs.Spans.{token_ends, more_digits, no_more_digits, digits_ended, more_value}
use Rattle.sand_text.proofs.bytes.span_of.Goals as goal
use Rattle.sand_text.proofs.bytes.span_of.Goals.{then-is_digit+then-digits-len, else-is_digit, else-is_digit-via-then-is_digit+else-digits-len, else-is_digit-via-else-is_digit}

pub returns-then-is_space-clause-len : goal.returns-then-is_space-clause-len
returns-then-is_space-clause-len c = token_ends c.args.text.now c.loop-len.len (omega arith)
    c.loop-len.invariant.no_space (λ _. sym c.is_space.ensures ∙ c.if-is_space.true)

pub loop-len-preserved : goal.loop-len-preserved
loop-len-preserved c = grind (arith, usual, below_more, more_digits, more_value, digits_ended, no_more_digits)

pub returns-clause-len : goal.returns-clause-len
returns-clause-len c = grind (arith, usual, token_ends)
