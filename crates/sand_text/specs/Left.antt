-- What iterators over a text have left.
use Rattle.std.specs.Prelude.{ℕ, List}
use Rattle.sand_text.specs.declared.tokens.Token.{Token}
use Rattle.sand_text.specs.declared.tokens.Tokens.{Tokens}
use Rattle.sand_text.specs.declared.numbers.Numbers.{Numbers}
use Rattle.sand_text.specs.Tokens.{tokens_at, numbers}

abbrev pub tokens_left : Tokens → List Token
tokens_left s = tokens_at s.at s.rest.now

-- the numbers among them
abbrev pub numbers_left : Numbers → List ℕ
numbers_left s = numbers (tokens_left s.tokens)
