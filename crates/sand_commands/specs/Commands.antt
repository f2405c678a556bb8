-- What a command without the laboratory does: the text that it writes for an input, and the fault that it finds in it.
use Rattle.std.specs.Prelude.{ℕ, ◌≡◌, ◌⊎◌, ◌<◌, ◌≤◌, Bool, true, false, List, [], length, take, Option, Some, Result, Err}
use Rattle.std.specs.Io.KnownBytes.{Appends, Keeps}
use Rattle.sand_model.specs.declared.faults.ShapeFault.{ShapeFault}
use Rattle.sand_model.specs.Grid.{Grid, grid_with_edge}
use Rattle.sand_model.specs.Piles.{most_grains_on}
use Rattle.sand_group.specs.declared.faults.GroupFault.TheVariants as group
use Rattle.sand_text.specs.declared.fault.TextFault.{TextFault}
use Rattle.sand_text.specs.Flow.{GivesAll}
use Rattle.sand_text.specs.Reading.{pile_of, two_of}
use Rattle.sand_cli.specs.declared.task.Draw.{Draw}
use Rattle.sand_cli.specs.declared.task.Task.{Task}
use Rattle.sand_cli.specs.declared.task.Task.TheVariants as task
use Rattle.sand_commands.specs.declared.faults.DeskFault.{DeskFault}
use Rattle.sand_commands.specs.declared.faults.DeskFault.TheVariants as desk
use Rattle.sand_commands.specs.DropsCommand.{IsDropsText, IsOverfull, drops_for}
use Rattle.sand_commands.specs.Faults.{of_shape, of_text}
use Rattle.sand_commands.specs.GroupCommands.{edge_of, IsBurnText, IsIdentityText, IsSumText, IsInverseText, IsMultipleText, IsRecurrentText, IsUnfitPile, IsUnfitPair, IsMismatch}
use Rattle.sand_commands.specs.SettleCommand.{IsSettleText}

abbrev pub reads_input : Task → Bool
reads_input (task.Identity width height cylinder pgm) = false
reads_input _ = true

-- whether a task writes its text once it is complete; drops at random are written as they are made
abbrev pub writes_whole : Task → Bool
writes_whole (task.Drops (Some draw) part) = false
writes_whole _ = true

-- whether a task is a run of the laboratory
abbrev pub is_lab : Task → Bool
is_lab (task.Lab wish journal form) = true
is_lab _ = false

-- the text that a task without the laboratory writes for an input
abbrev pub IsTextWithoutLab : Task → List ℕ → List ℕ → Type 0
IsTextWithoutLab (task.Settle form) input text = IsSettleText form input text
IsTextWithoutLab task.Burn input text = IsBurnText input text
IsTextWithoutLab (task.Identity width height cylinder pgm) input text = IsIdentityText width height cylinder pgm text
IsTextWithoutLab (task.Drops drawn part) input text = IsDropsText drawn part input text
IsTextWithoutLab (task.Add pgm) input text = IsSumText pgm input text
IsTextWithoutLab (task.Inverse pgm) input text = IsInverseText pgm input text
IsTextWithoutLab (task.Multiple times pgm) input text = IsMultipleText times pgm input text
IsTextWithoutLab (task.Recurrent pgm) input text = IsRecurrentText pgm input text
IsTextWithoutLab (task.Lab wish journal form) input text = ⊥

-- the input is not what the task needs
pub record IsUnreadable {A : Type 0} (reading : Result A TextFault) (fault : DeskFault) : Type 0 where
  pub why : TextFault
  pub read : reading ≡ Err why
  pub told : fault ≡ of_text why

-- dropping failed: the pile and all drops exceed the grain limit of the grid, or memory ran out
abbrev pub IsDropFault : Grid → ℕ → DeskFault → Type 0
IsDropFault g grains desk.Full = most_grains_on g < grains
IsDropFault g grains desk.Memory = Unit {0}
IsDropFault g grains fault = ⊥

abbrev pub IsDropsFault : Option Draw → List ℕ → DeskFault → Type 0
IsDropsFault drawn input desk.Full = IsOverfull drawn input
IsDropsFault drawn input fault = IsUnreadable (drops_for drawn input) fault

-- the burning test needs a stable pile
abbrev pub IsBurnFault : List ℕ → DeskFault → Type 0
IsBurnFault input desk.Unstable = IsUnfitPile input group.Unstable
IsBurnFault input fault = IsUnreadable (pile_of input) fault

-- the shape is invalid
pub record IsShapeless (width height : ℕ) (cylinder : Bool) (fault : DeskFault) : Type 0 where
  pub why : ShapeFault
  pub unmade : grid_with_edge width height (edge_of cylinder) ≡ Err why
  pub told : fault ≡ of_shape why

-- a sum needs two recurrent piles of one shape; the first pile's fault comes before the second's
abbrev pub IsSumFault : List ℕ → DeskFault → Type 0
IsSumFault input desk.Unstable = IsUnfitPair input group.Unstable
IsSumFault input desk.NotRecurrent = IsUnfitPair input group.NotRecurrent
IsSumFault input desk.Shapes = IsMismatch input
IsSumFault input fault = IsUnreadable (two_of input) fault

-- an inverse and a multiple need a recurrent pile
abbrev pub IsElementFault : List ℕ → DeskFault → Type 0
IsElementFault input desk.Unstable = IsUnfitPile input group.Unstable
IsElementFault input desk.NotRecurrent = IsUnfitPile input group.NotRecurrent
IsElementFault input fault = IsUnreadable (pile_of input) fault

-- the fault that a task without the laboratory finds in an input
abbrev pub IsFaultWithoutLab : Task → List ℕ → DeskFault → Type 0
IsFaultWithoutLab (task.Settle form) input fault = IsUnreadable (pile_of input) fault
IsFaultWithoutLab task.Burn input fault = IsBurnFault input fault
IsFaultWithoutLab (task.Identity width height cylinder pgm) input fault = IsShapeless width height cylinder fault
IsFaultWithoutLab (task.Drops drawn part) input fault = IsDropsFault drawn input fault
IsFaultWithoutLab (task.Add pgm) input fault = IsSumFault input fault
IsFaultWithoutLab (task.Inverse pgm) input fault = IsElementFault input fault
IsFaultWithoutLab (task.Multiple times pgm) input fault = IsElementFault input fault
IsFaultWithoutLab (task.Recurrent pgm) input fault = IsUnreadable (pile_of input) fault
IsFaultWithoutLab (task.Lab wish journal form) input fault = ⊥

-- a fault that a task finds in its input, or out of memory; never a fault of the words or of a stream
abbrev pub Finds : (DeskFault → Type 0) → DeskFault → Type 0
Finds IsFault desk.Memory = Unit {0}
Finds IsFault (desk.Usage error) = ⊥
Finds IsFault (desk.Clash conflict) = ⊥
Finds IsFault desk.Read = ⊥
Finds IsFault desk.TooLong = ⊥
Finds IsFault (desk.Write sent) = ⊥
Finds IsFault fault = IsFault fault

-- the writer took a whole text of this kind
pub record IsWritten (IsText : List ℕ → Type 0) (held held' : Option (List ℕ)) : Type 0 where
  pub text : List ℕ
  pub answer : IsText text
  pub written : Appends held held' text

-- the writer failed after it took part of such a text
pub record IsBrokenOff (IsText : List ℕ → Type 0) (held held' : Option (List ℕ)) (fault : DeskFault) : Type 0 where
  pub sent : ℕ
  pub told : fault ≡ desk.Write sent
  pub text : List ℕ
  pub answer : IsText text
  pub within : sent ≤ length text
  pub written : Appends held held' (take sent text)

-- a fault was found, and nothing was written
pub record IsRefused (IsFault : DeskFault → Type 0) (held held' : Option (List ℕ)) (fault : DeskFault) : Type 0 where
  pub found : Finds IsFault fault
  pub unwritten : Keeps held held'

-- how work with texts and faults of these kinds ends
abbrev pub WorkEnds : (List ℕ → Type 0) → (DeskFault → Type 0) → Option (List ℕ) → Option (List ℕ) → DeskFault → Type 0
WorkEnds IsText IsFault held held' fault = IsBrokenOff IsText held held' fault ⊎ IsRefused IsFault held held' fault

-- the input is everything the reader had; or none is wanted, and the reader is untouched
abbrev pub Takes : Bool → Option (List ℕ) → Option (List ℕ) → List ℕ → Type 0
Takes true left left' input = GivesAll left left' input
Takes false left left' input = Keeps left left' × (input ≡ [])
