use Rattle.sand_text.proofs.Common.{◌≡◌, length, tokens_left, numbers_left}
use Rattle.sand_text.proofs.numbers.NumbersIterator.next.Given as goal

abbrev pub invariant-tokens : goal.invariant-tokens
invariant-tokens l = numbers_left l.self ≡ numbers_left l.fn.self

abbrev pub decreases-tokens : goal.decreases-tokens
decreases-tokens l = length (tokens_left l.self.tokens)
