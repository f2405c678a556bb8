-- `drops --count` can be run in parts.
use Rattle.std.specs.Prelude.{ℕ, ◌≡◌, ◌+◌, List, ◌++◌, Some, Ok}
use Rattle.sand_text.specs.Reading.{pile_of}
use Rattle.sand_cli.specs.declared.task.Draw.{Draw}
use Rattle.sand_cli.specs.declared.task.Part.{Part}
use Rattle.sand_commands.specs.DropsCommand.{IsDropsText}

-- a draw begins with the sites of the first part and continues with those of the second
pub record IsCutInTwo (whole first second : Draw) : Type 0 where
  pub seeds : (first.seed ≡ whole.seed) × (second.seed ≡ whole.seed)
  pub streams : (first.stream ≡ whole.stream) × (second.stream ≡ whole.stream)
  pub starts : first.from ≡ whole.from
  pub goes_on : second.from ≡ first.from + first.count
  pub all : whole.count ≡ first.count + second.count

-- a run, and one from the pile that it left, have the rows and the final pile of a single run
abbrev pub RunsInParts : Type 0
RunsInParts = (whole first second : Draw) (a b c : Part) (input left all one other : List ℕ)
    → IsCutInTwo whole first second → (uncut : IsDropsText (Some whole) a input all)
    → (begun : IsDropsText (Some first) b input one) → (resumed : IsDropsText (Some second) c left other)
    → pile_of left ≡ Ok begun.last.settled.pile
    → (uncut.rows ≡ begun.rows ++ resumed.rows) × (uncut.last.settled.pile ≡ resumed.last.settled.pile)
