-- The unique text of the picture of a stable pile, and what holds of its lines.
-- Source: Netpbm's pgm(5), the plain format: the magic `P2`, width, height and the greatest value, then the values row
-- by row, all in decimal and separated by white space, and no line longer than 70 characters. 0 is black, and the
-- greatest value is white.
use Rattle.std.specs.Prelude.{ℕ, ◌≡◌, ◌<◌, ◌≤◌, List, [], ◌∷◌, ◌++◌, length, decimal, codes, All, ◌==◌}
use Rattle.std.specs.Int.{div_ceil}
use Rattle.std.specs.List.{flat_map, slice_split}
use Rattle.std.specs.Simd.{first_chunks}
use Rattle.sand_model.specs.Grid.{Grid}
use Rattle.sand_model.specs.Sand.{IsStable}
use Rattle.sand_model.specs.Piles.{PileView, IsPile, height_of}
use Rattle.sand_text.specs.Texts.{row_text}

-- chunks of `size` numbers; the last may have fewer
unfoldable pub chunks : List ℕ → ℕ → List (List ℕ)
chunks ns size = first_chunks size (div_ceil (length ns) size) ns

-- the values of a grid row, 35 to a line
abbrev pub lines_text : List ℕ → List ℕ
lines_text row = flat_map row_text (chunks row 35)

-- the values of a grid; each grid row starts a new line
abbrev pub values_text : Grid → List ℕ → List ℕ
values_text g ns = flat_map lines_text (chunks ns g.width)

-- the magic, width and height, and the greatest value; the edge is not shown
abbrev pub head_text : Grid → List ℕ
head_text g = codes "P2\n" ++ decimal g.width ++ codes " " ++ decimal g.height ++ codes "\n3\n"

abbrev pub pgm_text_of : PileView → List ℕ
pgm_text_of p = head_text p.grid ++ values_text p.grid p.heights

-- a line is not empty, and has at most 70 characters
abbrev pub IsShort : List ℕ → Type 0
IsShort line = (0 < length line) × (length line ≤ 70)

-- line ends cut the picture of a stable pile into short lines, and nothing follows the last line end
abbrev pub NoLongLine : Type 0
NoLongLine = (p : PileView) → IsPile p → IsStable p.grid (height_of p)
    → (lines : List (List ℕ)) × (slice_split (λ b. b == 10) (pgm_text_of p) ≡ lines ++ [] ∷ []) × All IsShort lines
