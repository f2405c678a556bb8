-- One step of writing a row or rows.
use Rattle.sand_text.proofs.Common.{◌≡◌, ℕ, ◌+◌, ◌*◌, ◌<◌, ◌≤◌, List, [], ◌∷◌, ◌++◌, length, take, drop, get_or, decimal, refl, ap, arith, length-drop, if◌then◌else◌, ◌==◌, at_drop_all, at_drop_more, usual}
use Rattle.sand_text.specs.Texts.{row_text, rows_text}

pub row_text-next : (ns : List ℕ) (i : ℕ) → i < length ns → row_text (drop i ns)
    ≡ decimal (get_or ns i 0) ++ (if i + 1 == length ns then 10 else 32) ∷ row_text (drop (i + 1) ns)
unfolding row_text
row_text-next ns i lt = grind (arith, usual, length-drop, at_drop_more)

pub row_text-end : (ns : List ℕ) (i : ℕ) → length ns ≤ i → row_text (drop i ns) ≡ []
unfolding row_text
row_text-end ns i le = at_drop_all row_text ns i le

pub rows_text-next : (n k w : ℕ) (ns : List ℕ) → n ≡ k + 1
    → rows_text n w ns ≡ row_text (take w ns) ++ rows_text k w (drop w ns)
unfolding rows_text
rows_text-next n k w ns e = grind (arith, usual)

pub rows_text-none : (n w : ℕ) (ns : List ℕ) → n ≡ 0 → rows_text n w ns ≡ []
unfolding rows_text
rows_text-none n w ns e = rw e refl

-- the numbers of the rows left
pub fewer_rows : (n k w rest after : ℕ) → n ≡ k + 1 → rest ≡ n * w → after + w ≡ rest → after ≡ k * w
fewer_rows n k w rest after e all cut =
    let product : n * w ≡ (k + 1) * w = ap (λ m. m * w) e in
    omega arith
