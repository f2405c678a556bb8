-- What a command does: the text that it writes for an input, the fault that it finds in it, and how it ends.
use Rattle.std.specs.Prelude.{ℕ, ⊤, ◌≡◌, ◌↔◌, ◌⊎◌, ◌+◌, ◌<◌, ◌≤◌, Bool, true, false, List, length, take, Option, Some, None, Result, OnOk, IfErr}
use Rattle.std.specs.Io.KnownBytes.{Appends, Keeps}
use Rattle.sand_model.specs.Grid.{Grid}
use Rattle.sand_model.specs.Piles.{most_grains_on}
use Rattle.sand_text.specs.Flow.{IsFurther, IsFurtherByAtMost, most_bytes}
use Rattle.sand_text.specs.Reading.{pile_of}
use Rattle.clap.specs.Words.{IsAmong, Text, kind_of}
use Rattle.clap.specs.declared.error.kind.ErrorKind.TheVariants.{DisplayHelp}
use Rattle.sand_wish.specs.declared.wish.Wish.{Wish}
use Rattle.sand_cli.specs.Asked.{AskForHelp, asked, conflict_among, faults}
use Rattle.sand_cli.specs.declared.task.Task.{Task}
use Rattle.sand_cli.specs.declared.task.Task.TheVariants as task
use Rattle.sand_commands.specs.declared.faults.DeskFault.{DeskFault}
use Rattle.sand_commands.specs.declared.faults.DeskFault.TheVariants as desk
use Rattle.sand_commands.specs.Commands.{IsFaultWithoutLab, IsTextWithoutLab, IsUnreadable, Takes, reads_input}
use Rattle.sand_desk.specs.Laboratory.{IsLabText, IsOvergrown, IsRunnable}

-- whether the words ask for a task that reads an input
abbrev pub asks_for_input : Option Task → Bool
asks_for_input None = false
asks_for_input (Some task) = reads_input task

-- the text that a task writes for an input
abbrev pub IsTextOf : Task → List ℕ → List ℕ → Type 0
IsTextOf (task.Lab wish journal form) input text = IsLabText wish journal form input text
IsTextOf task input text = IsTextWithoutLab task input text

-- a run failed: the pile and all drops exceed the grain limit of the grid, memory ran out, or a place of the album was taken
abbrev pub IsRunFault : Grid → ℕ → DeskFault → Type 0
IsRunFault g grains desk.TooManyGrains = most_grains_on g < grains
IsRunFault g grains desk.Memory = Unit {0}
IsRunFault g grains desk.Taken = grains ≤ most_grains_on g
IsRunFault g grains fault = ⊥

-- a run needs room for all its drops
abbrev pub IsLabFault : Wish → List ℕ → DeskFault → Type 0
IsLabFault w input desk.TooManyGrains = IsUnreadable (pile_of input) desk.TooManyGrains ⊎ IsOvergrown w input
IsLabFault w input desk.Taken = IsRunnable w input
IsLabFault w input fault = IsUnreadable (pile_of input) fault

-- the fault that a task finds in an input
abbrev pub IsFaultOf : Task → List ℕ → DeskFault → Type 0
IsFaultOf (task.Lab wish journal form) input fault = IsLabFault wish input fault
IsFaultOf task input fault = IsFaultWithoutLab task input fault

-- a call of the program: its words, the task that they ask for, and before and after it, what the reader still has and
-- what the writer holds
pub record Call : Type 0 where
  pub words : List Text
  pub asked : Option Task
  pub left : Option (List ℕ)
  pub left_after : Option (List ℕ)
  pub held : Option (List ℕ)
  pub held_after : Option (List ℕ)

abbrev pub call_of : List Text → Option (List ℕ) → Option (List ℕ) → Option (List ℕ) → Option (List ℕ) → Call
call_of words left left_after held held_after = record {
  words = words;
  asked = asked words;
  left = left;
  left_after = left_after;
  held = held;
  held_after = held_after;
}

-- a task was asked for, and its input was read, within the limit
pub record IsRead (call : Call) (task : Task) (input : List ℕ) : Type 0 where
  pub is_asked : call.asked ≡ Some task
  pub all : Takes (reads_input task) call.left call.left_after input
  pub within : length input ≤ most_bytes

-- success: the writer took the text of the task for the whole input
pub record IsDone (call : Call) : Type 0 where
  pub task : Task
  pub input : List ℕ
  pub text : List ℕ
  pub read : IsRead call task input
  pub answer : IsTextOf task input text
  pub written : Appends call.held call.held_after text

-- the writer failed after it took `sent` bytes of the text of the task for the whole input
pub record IsCutShort (call : Call) (sent : ℕ) : Type 0 where
  pub task : Task
  pub input : List ℕ
  pub text : List ℕ
  pub read : IsRead call task input
  pub answer : IsTextOf task input text
  pub within : sent ≤ length text
  pub written : Appends call.held call.held_after (take sent text)

-- the whole input has a fault, and nothing was written
pub record IsFaulty (call : Call) (fault : DeskFault) : Type 0 where
  pub task : Task
  pub input : List ℕ
  pub read : IsRead call task input
  pub found : IsFaultOf task input fault
  pub unwritten : Keeps call.held call.held_after

-- reading failed after some bytes within the limit, and nothing was written
pub record IsStopped (call : Call) : Type 0 where
  pub task : Task
  pub is_asked : call.asked ≡ Some task
  pub reads : reads_input task ≡ true
  pub further : IsFurtherByAtMost call.left call.left_after most_bytes
  pub unwritten : Keeps call.held call.held_after

-- the reader had more than the limit, and nothing was written
pub record IsFlooded (call : Call) : Type 0 where
  pub task : Task
  pub is_asked : call.asked ≡ Some task
  pub reads : reads_input task ≡ true
  pub further : IsFurther call.left call.left_after (most_bytes + 1)
  pub unwritten : Keeps call.held call.held_after

-- the words name no task, and nothing was read or written
pub record IsMisuse (call : Call) : Type 0 where
  pub unasked : call.asked ≡ None
  pub unread : Keeps call.left call.left_after
  pub unwritten : Keeps call.held call.held_after

-- memory ran out, and nothing was written; the reader gave some bytes within the limit, or none if no input was asked
-- for
pub record IsStarved (call : Call) : Type 0 where
  pub further : IsFurtherByAtMost call.left call.left_after most_bytes
  pub unread : asks_for_input call.asked ≡ false → Keeps call.left call.left_after
  pub unwritten : Keeps call.held call.held_after

-- a fault of the words shows help if and only if the words ask for help and nothing else
abbrev pub HelpsIfAsked : List Text → DeskFault → Type 0
HelpsIfAsked words (desk.Usage error) = (kind_of error ≡ DisplayHelp) ↔ AskForHelp words
HelpsIfAsked words (desk.Clash conflict) = ¬ AskForHelp words
HelpsIfAsked words fault = ⊤

-- a fault of the words reports what is wrong with them: clap's error is of one of their kinds, and a conflict of
-- options is theirs
abbrev pub TellsWords : List Text → DeskFault → Type 0
TellsWords words (desk.Usage error) = IsAmong (kind_of error) (faults words)
TellsWords words (desk.Clash conflict) = conflict_among words ≡ Some conflict
TellsWords words fault = ⊤

-- how a command ends with each fault; memory may run out anywhere before the text is written
abbrev pub EndsBy : Call → DeskFault → Type 0
EndsBy call (desk.Usage error) = IsMisuse call
EndsBy call (desk.Clash conflict) = IsMisuse call
EndsBy call desk.Read = IsStopped call
EndsBy call desk.TooLong = IsFlooded call
EndsBy call desk.Memory = IsStarved call
EndsBy call (desk.Write sent) = IsCutShort call sent
EndsBy call fault = IsFaulty call fault

-- how a command ends: it is done, or it fails, and what the fault says of the words is true
pub record CommandEnds (call : Call) (result : Result (Unit {0}) DeskFault) : Type 0 where
  pub done : OnOk result (IsDone call)
  pub fault : IfErr result (EndsBy call)
  pub help : IfErr result (HelpsIfAsked call.words)
  pub told : IfErr result (TellsWords call.words)
