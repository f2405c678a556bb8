-- The unique text of a run of the laboratory, and of its journal.
use Rattle.std.specs.Prelude.{ℕ, ◌+◌, List, [], ◌∷◌, ◌++◌, codes}
use Rattle.sand_model.specs.Piles.{PileView}
use Rattle.sand_text.specs.declared.runs.Sums.{Sums}
use Rattle.sand_text.specs.Texts.{row_text, text_of, odometer_text}

-- the lines of the items of a list, numbered from the given number on
unfoldable pub lines_from : {A : Type 0} → (ℕ → A → List ℕ) → ℕ → List A → List ℕ
lines_from line n [] = []
lines_from line n (x ∷ xs) = line n x ++ lines_from line (n + 1) xs

-- the numbers of a line of sums
abbrev pub fields_of : Sums → List ℕ
fields_of s = s.drops ∷ s.topplings ∷ s.lost ∷ s.grains ∷ []

-- the line of an epoch: its number and its sums
abbrev pub epoch_line : ℕ → Sums → List ℕ
epoch_line n s = row_text (n ∷ fields_of s)

-- the line of a whole run
abbrev pub total_line : Sums → List ℕ
total_line s = codes "total " ++ row_text (fields_of s)

-- a line that names the columns, a line for each epoch and one for all, the pile, and how often each site toppled
abbrev pub lab_text_of : List Sums → Sums → PileView → List ℕ → List ℕ
lab_text_of epochs total pile odometer = codes "epoch drops topplings lost grains\n" ++ lines_from epoch_line 0 epochs
    ++ total_line total ++ text_of pile ++ odometer_text pile.grid odometer

-- the line of a drop: its epoch, its number in that epoch, its dropper and its site
abbrev pub journal_line : ℕ → ℕ → ℕ × ℕ → List ℕ
journal_line epoch number (dropper, site) = row_text (epoch ∷ number ∷ dropper ∷ site ∷ [])

-- the lines of an epoch's drops, by number
abbrev pub journal_lines : ℕ → List (ℕ × ℕ) → List ℕ
journal_lines epoch drops = lines_from (journal_line epoch) 0 drops

-- the first line, and the lines of all drops, by epoch
abbrev pub journal_text_of : List (List (ℕ × ℕ)) → List ℕ
journal_text_of epochs = codes "journal\n" ++ lines_from journal_lines 0 epochs
