-- The unique text of a table of avalanches.
use Rattle.std.specs.Prelude.{ℕ, List, [], ◌∷◌, ◌++◌, codes}
use Rattle.sand_fronts.specs.declared.avalanche.Avalanche.{Avalanche}
use Rattle.sand_text.specs.Texts.{row_text}

-- the line of a drop: its number, and the five fields of its avalanche
abbrev pub entry_text : ℕ × Avalanche → List ℕ
entry_text (n, a) = row_text (n ∷ a.site ∷ a.size ∷ a.area ∷ a.reach ∷ a.lost ∷ [])

unfoldable pub entries_text : List (ℕ × Avalanche) → List ℕ
entries_text [] = []
entries_text (e ∷ es) = entry_text e ++ entries_text es

abbrev pub table_head : List ℕ
table_head = codes "number site size area reach lost\n"

-- the line that names the columns, and a line for each drop
abbrev pub table_text_of : List (ℕ × Avalanche) → List ℕ
table_text_of es = table_head ++ entries_text es
