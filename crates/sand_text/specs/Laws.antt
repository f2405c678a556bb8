-- What the definitions by tokens say of bytes, and of a written text.
use Rattle.std.specs.Prelude.{◌≡◌, ℕ, ◌<◌, List, Bool, true, not, ◌&&◌, length, slice_index, MatchOption, None, Ok, Err, nat_lt, filter, map, if◌then◌else◌}
use Rattle.std.specs.List.{slice_split}
use Rattle.std.specs.Str.Parse.{digits_value}
use Rattle.sand_model.specs.Grid.{is_side}
use Rattle.sand_model.specs.Piles.{PileView, IsPile}
use Rattle.sand_text.specs.declared.fault.TextFault.TheVariants.{Side}
use Rattle.sand_text.specs.Bytes.{is_other, is_space, capped}
use Rattle.sand_text.specs.Tokens.{tokens, first_strange, numbers}
use Rattle.sand_text.specs.Texts.{text_of}
use Rattle.sand_text.specs.Reading.{pile_of}

-- neither a digit nor white space
abbrev pub is_strange : ℕ → Bool
is_strange b = is_other b && not (is_space b)

-- before this offset, all strange bytes are letters `c`
abbrev pub OnlyLetters : List ℕ → ℕ → Type 0
OnlyLetters text end = (k : ℕ) → k < end → is_strange (slice_index text k) ≡ true → slice_index text k ≡ 99

-- the first strange byte is neither a digit nor white space, and all such bytes before it are letters; if there is
-- none, all such bytes of the text are letters
abbrev pub StrangeByte : Type 0
StrangeByte = (spared text : List ℕ) → MatchOption (first_strange spared 0 (tokens text))
    (OnlyLetters text (length text))
    (λ at. (at < length text) × (is_strange (slice_index text at) ≡ true) × OnlyLetters text at)

-- the written text of a pile is read as the same pile, or refused as Side if a side is not that of a text
abbrev pub ReadAgain : Type 0
ReadAgain = (p : PileView) → IsPile p
    → pile_of (text_of p) ≡ (if is_side p.grid.width && is_side p.grid.height then Ok p else Err Side)

-- the longest runs of digits
abbrev pub digit_runs : List ℕ → List (List ℕ)
digit_runs text = filter (λ run. nat_lt 0 (length run)) (slice_split is_other text)

-- the numbers of a text without a strange byte are its longest runs of digits
abbrev pub NumbersAreRuns : Type 0
NumbersAreRuns = (spared text : List ℕ) → first_strange spared 0 (tokens text) ≡ None
    → numbers (tokens text) ≡ map (λ run. capped (digits_value 10 run)) (digit_runs text)
