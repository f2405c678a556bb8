-- The tokens of a text of piles, and what they say.
-- Tokens are separated by white space. The tokens of a text without a strange byte are digits or allowed letters, so
-- each longest run of digits is a token; `specs/Laws` says this of the bytes themselves.
use Rattle.std.specs.Prelude.{ℕ, ◌+◌, List, [], ◌∷◌, not, ◌==◌, nat_lt, length, filter, Option, Some, None, if◌then◌else◌}
use Rattle.std.specs.List.{slice_split, filter_map, list_any}
use Rattle.std.specs.Str.Parse.{digits_value}
use Rattle.sand_model.specs.declared.shape.Edge.{Edge}
use Rattle.sand_model.specs.declared.shape.Edge.TheVariants.{Open, Cylinder}
use Rattle.sand_text.specs.declared.tokens.Token.{Token}
use Rattle.sand_text.specs.declared.tokens.Token.TheVariants.{Number, Letter, Strange}
use Rattle.sand_text.specs.Bytes.{is_space, digits_len, is_letter, capped}
use Rattle.sand_model.specs.Piles.{most_grains}

-- the token at this offset: a number, the letter `c`, or neither, with the offset of its first byte that is not a digit
unfoldable pub token_of : ℕ → List ℕ → Token
token_of at token = if digits_len token == length token
    then Number at (capped (digits_value 10 token))
    else (if is_letter token then Letter at else Strange (at + digits_len token))

-- the tokens among parts separated by white space, the first part starting at this offset
unfoldable pub tokens_from : ℕ → List (List ℕ) → List Token
tokens_from at [] = []
tokens_from at (part ∷ more) =
    if length part == 0 then tokens_from (at + 1) more else (token_of at part ∷ tokens_from (at + length part + 1) more)

-- the tokens of a text that starts at this offset
abbrev pub tokens_at : ℕ → List ℕ → List Token
tokens_at at text = tokens_from at (slice_split is_space text)

abbrev pub tokens : List ℕ → List Token
tokens text = tokens_at 0 text

-- the first strange byte after n numbers; one letter is allowed after each of these counts of numbers
unfoldable pub first_strange : List ℕ → ℕ → List Token → Option ℕ
first_strange spared n [] = None
first_strange spared n (Number at value ∷ more) = first_strange spared (n + 1) more
first_strange spared n (Letter at ∷ more) =
    if list_any (λ k. k == n) spared then first_strange (filter (λ k. not (k == n)) spared) n more else Some at
first_strange spared n (Strange at ∷ more) = Some at

-- the offset of the first number over the limit
unfoldable pub first_large : List Token → Option ℕ
first_large [] = None
first_large (Number at value ∷ more) = if nat_lt most_grains value then Some at else first_large more
first_large (Letter at ∷ more) = first_large more
first_large (Strange at ∷ more) = first_large more

-- a cylinder if a letter follows k numbers; n numbers precede these tokens
unfoldable pub edge_behind : ℕ → ℕ → List Token → Edge
edge_behind k n [] = Open
edge_behind k n (Number at value ∷ more) = edge_behind k (n + 1) more
edge_behind k n (Letter at ∷ more) = if k == n then Cylinder else edge_behind k n more
edge_behind k n (Strange at ∷ more) = edge_behind k n more

abbrev pub value_of : Token → Option ℕ
value_of (Number at value) = Some value
value_of (Letter at) = None
value_of (Strange at) = None

-- the values of the numbers, in order
abbrev pub numbers : List Token → List ℕ
numbers ws = filter_map value_of ws
