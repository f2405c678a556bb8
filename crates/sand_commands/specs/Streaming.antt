-- What `drops --count` has written while it drops, at its end, or when the writer fails.
use Rattle.std.specs.Prelude.{ℕ, ◌≡◌, List, [], ◌++◌, codes, Option}
use Rattle.sand_model.specs.Piles.{PileView}
use Rattle.sand_settle.specs.Avalanches.{Avalanche}
use Rattle.sand_settle.specs.Settling.{SettledView}
use Rattle.sand_settle.specs.Drops.{DrivenView, IsAfter}
use Rattle.sand_text.specs.Blocks.{BreaksIn, GrowsBy, Waiting}
use Rattle.sand_text.specs.Tables.{entries_text, entry_text, table_head}
use Rattle.sand_text.specs.Texts.{sum_line, text_of}
use Rattle.sand_text.specs.declared.fault.StreamFault.{StreamFault}
use Rattle.sand_cli.specs.declared.task.Part.{Part}
use Rattle.sand_cli.specs.declared.task.Part.TheVariants as parts
use Rattle.sand_commands.specs.declared.faults.DeskFault.{DeskFault}
use Rattle.sand_commands.specs.DropsCommand.{AreRows}
use Rattle.sand_commands.specs.Faults.{of_stream}

abbrev pub head_in : Part → List ℕ
head_in parts.Pile = []
head_in part = table_head

abbrev pub row_in : Part → ℕ × Avalanche → List ℕ
row_in parts.Pile row = []
row_in part row = entry_text row

abbrev pub rows_in : Part → List (ℕ × Avalanche) → List ℕ
rows_in parts.Pile rows = []
rows_in part rows = entries_text rows

abbrev pub pile_and_sums : SettledView → List ℕ
pile_and_sums last = text_of last.pile
    ++ sum_line (codes "lost ") last.lost ++ sum_line (codes "topplings ") last.topplings

abbrev pub end_in : Part → SettledView → List ℕ
end_in parts.All last = pile_and_sums last
end_in parts.Table last = []
end_in parts.Pile last = text_of last.pile

-- the drops at these sites lead from v to w, and their rows, numbered from n, were appended
pub record AreAdded (part : Part) (n : ℕ) (v : DrivenView) (sites : List ℕ) (w : DrivenView) (held held' : Option (List ℕ))
    (b b' : Waiting) : Type 0 where
  pub rows : List (ℕ × Avalanche)
  pub dropped : AreRows n v sites rows w
  pub grown : GrowsBy held held' b b' (rows_in part rows)

-- the drops at these sites lead from v to some w, and the writer failed within the bytes up to the end of their rows
pub record BreaksInRows (start : PileView) (part : Part) (n : ℕ) (v : DrivenView) (sites : List ℕ)
    (held held' : Option (List ℕ)) (b : Waiting) (fault : DeskFault) : Type 0 where
  pub why : StreamFault
  pub told : fault ≡ of_stream why
  pub last : DrivenView
  pub rows : List (ℕ × Avalanche)
  pub dropped : AreRows n v sites rows last
  pub end : IsAfter start sites last
  pub broken : BreaksIn held held' b (rows_in part rows) why
