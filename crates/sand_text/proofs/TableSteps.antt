-- One step of writing the lines of a table.
use Rattle.sand_text.proofs.Common.{arith, ◌≡◌, ℕ, ◌+◌, ◌<◌, ◌≤◌, List, [], ◌++◌, length, drop, get_or, append_assoc, at_drop_all, at_drop_more, usual}
use Rattle.sand_fronts.specs.declared.avalanche.Avalanche.{Avalanche}
use Rattle.sand_text.specs.Tables.{entry_text, entries_text}

pub one_line : (es : List (ℕ × Avalanche)) (k : ℕ) (d : ℕ × Avalanche) (text more whole : List ℕ)
    → k < length es → more ≡ text ++ entry_text (get_or es k d)
    → text ++ entries_text (drop k es) ≡ whole
    → more ++ entries_text (drop (k + 1) es) ≡ whole
unfolding entries_text
one_line es k d text more whole lt grown so_far = grind (arith, usual, at_drop_more, append_assoc)

pub entries_text-end : (es : List (ℕ × Avalanche)) (k : ℕ) → length es ≤ k → entries_text (drop k es) ≡ []
unfolding entries_text
entries_text-end es k le = at_drop_all entries_text es k le
