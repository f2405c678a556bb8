-- The lines of the picture of a stable pile.
use Rattle.sand_text.proofs.Common.{◌≡◌, ℕ, zero, suc, ◌+◌, ◌*◌, ◌^◌, ◌<◌, ◌≤◌, List, [], ◌∷◌, ◌++◌, true, false, length, take, drop, decimal, refl, sym, ◌∙◌, ap, arith, inl, inr, append_assoc, append-nil, length-drop, length-append, eqb, ◌==◌, All, flat_map, slice_split, cases_lt, nat_tests, decimal_digit, length-decimal-le, get_or_default, length-take, slice_split_at, PileView, IsPile, height_of, chunks, lines_text, values_text, pgm_text_of, IsShort, NoLongLine, is_digit, usual}
use Rattle.std.proofs.lemmas.List.Elements.{All-nil, All-cons, All-tail, All-append, All-take, All-drop, All-weaker}
use Rattle.sand_model.specs.Sand.{IsStable}
use Rattle.sand_text.specs.Texts.{row_text}
use Rattle.sand_text.proofs.Decimals.{only_digits}
use Rattle.sand_text.proofs.Chunks.{chunks-next, chunks-end}

abbrev cut_lines : List ℕ → List (List ℕ)
cut_lines text = slice_split (λ b. b == 10) text

-- the byte is not a line end
abbrev IsPlain : ℕ → Type 0
IsPlain b = (b == 10) ≡ false

abbrev AreLow : List ℕ → Type 0
AreLow ns = All (λ n. n ≤ 3) ns

-- short lines, each with its line end, whatever follows them
record IsLines (text : List ℕ) : Type 0 where
  lines : List (List ℕ)
  cut : (rest : List ℕ) → cut_lines (text ++ rest) ≡ lines ++ cut_lines rest
  short : All IsShort lines

IsLines-nil : IsLines []
IsLines-nil = record { lines = []; cut = λ rest. refl; short = All-nil IsShort }

IsLines-one : (line : List ℕ) → All IsPlain line → IsShort line → IsLines (line ++ 10 ∷ [])
IsLines-one line plain short = record {
  lines = line ∷ [];
  cut = λ rest. ap cut_lines (append_assoc line (10 ∷ []) rest) ∙ slice_split_at (λ b. b == 10) line 10 rest plain refl;
  short = All-cons IsShort line [] short (All-nil IsShort);
}

IsLines-append : (a b : List ℕ) → IsLines a → IsLines b → IsLines (a ++ b)
IsLines-append a b first second = record {
  lines = first.lines ++ second.lines;
  cut = λ rest. ap cut_lines (append_assoc a b rest) ∙ (first.cut (b ++ rest)
      ∙ (ap (λ ls. first.lines ++ ls) (second.cut rest)
      ∙ sym (append_assoc first.lines second.lines (cut_lines rest))));
  short = All-append IsShort first.lines second.lines first.short second.short;
}

-- ---- values

-- a line of stable heights: a digit for each, and a space between any two
record IsRow (ns line : List ℕ) : Type 0 where
  text : row_text ns ≡ line ++ 10 ∷ []
  len : length line + 1 ≡ 2 * length ns
  plain : All IsPlain line

low_plain : (n : ℕ) → n ≤ 3 → IsPlain (48 + n)
low_plain n low = grind (arith, nat_tests)

row_line : (n : ℕ) (ns : List ℕ) → AreLow (n ∷ ns) → (line : List ℕ) × IsRow (n ∷ ns) line
unfolding row_text
row_line n [] low =
    let here : n ≤ 3 = low 0 0 (omega arith) in
    let digit : decimal n ≡ (48 + n) ∷ [] = decimal_digit n (omega arith) in (
      (48 + n) ∷ [],
      record {
        text = ap (λ ds. ds ++ 10 ∷ []) digit;
        len = omega arith;
        plain = All-cons IsPlain (48 + n) [] (low_plain n here) (All-nil IsPlain);
      },
    )
row_line n (m ∷ ns) low =
    let here : n ≤ 3 = low 0 0 (omega arith) in
    let digit : decimal n ≡ (48 + n) ∷ [] = decimal_digit n (omega arith) in
    let spaced : eqb (length (m ∷ ns)) 0 ≡ false = grind (arith, nat_tests) in
    let more = row_line m ns (All-tail (λ k. k ≤ 3) n (m ∷ ns) low) in
    let behind : row_text (m ∷ ns) ≡ more.0 ++ 10 ∷ [] = more.1.text in
    let len : length more.0 + 1 ≡ 2 * length (m ∷ ns) = more.1.len in (
      (48 + n) ∷ 32 ∷ more.0,
      record {
        text = rw (digit, spaced) (ap (λ t. (48 + n) ∷ 32 ∷ t) behind);
        len = omega arith;
        plain =
            All-cons IsPlain (48 + n) (32 ∷ more.0) (low_plain n here) (All-cons IsPlain 32 more.0 refl more.1.plain);
      },
    )

row_lines : (ns : List ℕ) → 0 < length ns → length ns ≤ 35 → AreLow ns → IsLines (row_text ns)
row_lines [] some most low = absurd (omega arith)
row_lines (n ∷ ns) some most low = grind (arith, usual, row_line, IsLines-one)

-- the chunks of a list of stable heights, if each chunk makes short lines
all_lines : (f : List ℕ → List ℕ) (size fuel : ℕ) (ns : List ℕ) → 0 < size
    → ((chunk : List ℕ) → 0 < length chunk → length chunk ≤ size → AreLow chunk → IsLines (f chunk))
    → length ns ≤ fuel → AreLow ns → IsLines (flat_map f (chunks ns size))
all_lines f size zero ns some each le low = rw (chunks-end f size ns (omega arith)) IsLines-nil
all_lines f size (suc fuel) ns some each le low = elim (cases_lt 0 (length ns)) [
  | inl left ↦
      let front = take size ns in
      let back = drop size ns in
      let first = each front (omega (arith, length-take size ns))
      (omega (arith, length-take size ns)) (All-take (λ n. n ≤ 3) size ns low) in
      let others =
      all_lines f size fuel back some each (omega (arith, length-drop size ns)) (All-drop (λ n. n ≤ 3) size ns low) in
      rw (chunks-next f size ns some left) (IsLines-append (f front) (flat_map f (chunks back size)) first others)
  | inr nothing ↦ rw (chunks-end f size ns (omega arith)) IsLines-nil
]

grid_row_lines : (row : List ℕ) → AreLow row → IsLines (lines_text row)
grid_row_lines row low = all_lines row_text 35 (length row) row (omega arith) row_lines (omega arith) low

-- ---- the head

digit_plain : (b : ℕ) → is_digit b ≡ true → IsPlain b
digit_plain b e = grind (arith, nat_tests)

number_plain : (n : ℕ) → n < 2 ^ 64 → All IsPlain (decimal n)
number_plain n small = All-weaker (λ b. is_digit b ≡ true) IsPlain digit_plain (decimal n) (only_digits n small)

sides_line : (w h : ℕ) → w ≤ 8192 → h ≤ 8192 → IsLines ((decimal w ++ 32 ∷ decimal h) ++ 10 ∷ [])
sides_line w h wide high =
    let width_len : length (decimal w) ≤ 4 = length-decimal-le 4 w (omega arith) (omega arith) (omega arith) in
    let height_len : length (decimal h) ≤ 4 = length-decimal-le 4 h (omega arith) (omega arith) (omega arith) in
    let len : length (decimal w ++ 32 ∷ decimal h) ≡ length (decimal w) + (length (decimal h) + 1) =
    omega (arith, length-append (decimal w) (32 ∷ decimal h)) in
    let height_plain = All-cons IsPlain 32 (decimal h) refl (number_plain h (omega arith)) in
    IsLines-one (decimal w ++ 32 ∷ decimal h)
    (All-append IsPlain (decimal w) (32 ∷ decimal h) (number_plain w (omega arith)) height_plain)
    (omega arith, omega arith)

magic_line : IsLines (80 ∷ 50 ∷ 10 ∷ [])
magic_line = IsLines-one (80 ∷ 50 ∷ [])
    (All-cons IsPlain 80 (50 ∷ []) refl (All-cons IsPlain 50 [] refl (All-nil IsPlain))) (omega arith, omega arith)

greatest_line : IsLines (51 ∷ 10 ∷ [])
greatest_line = IsLines-one (51 ∷ []) (All-cons IsPlain 51 [] refl (All-nil IsPlain)) (omega arith, omega arith)

-- ---- the whole picture

heights_low : (p : PileView) → IsPile p → IsStable p.grid (height_of p) → AreLow p.heights
heights_low p pile stable = λ k d lt.
    rw (get_or_default p.heights k d 0 lt) (stable.low k (omega (arith, pile.len)))

picture_lines : (p : PileView) → IsPile p → IsStable p.grid (height_of p) → IsLines (pgm_text_of p)
picture_lines p pile stable =
    let magic : List ℕ = 80 ∷ 50 ∷ 10 ∷ [] in
    let sides : List ℕ = (decimal p.grid.width ++ 32 ∷ decimal p.grid.height) ++ 10 ∷ [] in
    let greatest : List ℕ = 51 ∷ 10 ∷ [] in
    let values : List ℕ = values_text p.grid p.heights in
    let rows : IsLines values = all_lines lines_text p.grid.width (length p.heights) p.heights pile.grid.some_width
    (λ row some most low. grid_row_lines row low) (omega arith) (heights_low p pile stable) in
    let behind_sides = IsLines-append greatest values greatest_line rows in
    let behind_magic = IsLines-append sides (greatest ++ values)
    (sides_line p.grid.width p.grid.height pile.grid.width_limit pile.grid.height_limit) behind_sides in
    let whole : pgm_text_of p ≡ magic ++ (sides ++ (greatest ++ values)) = simp append_assoc in
    rw whole (IsLines-append magic (sides ++ (greatest ++ values)) magic_line behind_magic)

pub no_long_line : NoLongLine
no_long_line p pile stable =
    let all = picture_lines p pile stable in
    (all.lines, ap cut_lines (sym (append-nil (pgm_text_of p))) ∙ all.cut [], all.short)
