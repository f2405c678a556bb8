-- The numbers of places in a row, several in one word.
use Rattle.std.specs.Prelude.{ℕ, ◌+◌, ◌*◌}

-- the numbers of the four places from p on, 16 bits apart
abbrev pub four : (ℕ → ℕ) → ℕ → ℕ
four f p = f p + 65536 * f (p + 1) + 4294967296 * f (p + 2) + 281474976710656 * f (p + 3)
