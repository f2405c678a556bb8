use Rattle.sand_text.proofs.Common.{length, arith, ap, usual}
use Rattle.sand_text.proofs.Cuts.{none_left, token_left}
use Rattle.sand_text.proofs.tokens.TokensIterator.next.Goals as goal

pub returns-then-is_empty-clause-steps : goal.returns-then-is_empty-clause-steps
returns-then-is_empty-clause-steps c = grind (arith, usual, none_left)

pub returns-clause-steps : goal.returns-clause-steps
returns-clause-steps c = grind (arith, usual, token_left)

pub returns-clause-goes : goal.returns-clause-goes
returns-clause-goes c = record {
  on = λ _. (tt, tt, omega (arith, ap length (returns-clause-steps c)));
  keeps = tt;
  rests = λ _. tt;
}
