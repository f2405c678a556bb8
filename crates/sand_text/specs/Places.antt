-- Positions in a text as people count them.
use Rattle.std.specs.Prelude.{ℕ, ◌+◌, ◌==◌, Bool, List, count_by, length, not, reverse, take}
use Rattle.std.specs.List.{take_while}

abbrev pub ends_line : ℕ → Bool
ends_line byte = byte == 10

-- the line of the byte at an offset: one more than the number of line ends before it
abbrev pub line_of : List ℕ → ℕ → ℕ
line_of text at = count_by ends_line (take at text) + 1

-- its column: one more than the number of bytes before it in its line
abbrev pub column_of : List ℕ → ℕ → ℕ
column_of text at = length (take_while (λ byte. not (ends_line byte)) (reverse (take at text))) + 1
