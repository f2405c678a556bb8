-- How a command ends, given how its reading, its work or its writing ended.
use Rattle.sand_desk.proofs.Common.{common_steps, ◌≡◌, ◌+◌, ◌≤◌, ℕ, Bool, List, true, false, length, sym, ap, ◌∙◌, arith, Option, Some, None, Keeps, DeskFault, of_stream, Call, asks_for_input, IsTextOf, IsFaultOf, IsRead, IsFaulty, IsStarved, EndsBy, HelpsIfAsked, TellsWords}
use Rattle.std.proofs.Math.Seq.{drop-length}
use Rattle.sand_text.specs.declared.fault.StreamFault.{StreamFault}
use Rattle.sand_text.specs.declared.fault.StreamFault.TheVariants as stream
use Rattle.sand_text.specs.Flow.{GivesAll, IsFurther, IsFurtherByAtMost, IsOfReading, most_bytes}
use Rattle.clap.specs.Words.{Text}
use Rattle.sand_cli.specs.declared.task.Task.{Task}
use Rattle.sand_commands.specs.Commands.{Finds, IsBrokenOff, Takes, WorkEnds, reads_input}

-- the reader gave nothing
none_given : (left left' : Option (List ℕ)) → Keeps left left' → IsFurtherByAtMost left left' most_bytes
none_given left left' kept = grind (arith, common_steps)

-- the reader gave all it had, within the limit
all_given : (left left' : Option (List ℕ)) (input : List ℕ) → GivesAll left left' input → length input ≤ most_bytes
    → IsFurtherByAtMost left left' most_bytes
all_given None left' input all within = (length input, within, tt)
all_given (Some bytes) left' input all within =
    let same : length input ≡ length bytes = ap length all.0 in
    (length bytes, omega (arith, within, same), (omega arith, all.1 ∙ ap Some (sym (drop-length bytes))))

-- a task's input was read
taken : (reads : Bool) (left left' : Option (List ℕ)) (input : List ℕ)
    → Takes reads left left' input → length input ≤ most_bytes
    → IsFurtherByAtMost left left' most_bytes
taken reads left left' input all within = grind (arith, common_steps, all_given, none_given)

unread : (reads : Bool) (left left' : Option (List ℕ)) (input : List ℕ) → Takes reads left left' input → reads ≡ false
    → Keeps left left'
unread reads left left' input all e = grind (arith, common_steps)

-- memory ran out while the input was read
starved_reading : (call : Call) (task : Task)
    → call.asked ≡ Some task → reads_input task ≡ true
    → IsFurtherByAtMost call.left call.left_after most_bytes
    → Keeps call.held call.held_after → IsStarved call
starved_reading call task e reads further kept = grind (arith, common_steps, unread)

-- memory ran out after the input was read
starved_working : (call : Call) (task : Task) (input : List ℕ)
    → IsRead call task input → Keeps call.held call.held_after → IsStarved call
starved_working call task input read kept = record {
  further = taken (reads_input task) call.left call.left_after input read.all read.within;
  unread = λ none.
      unread (reads_input task) call.left call.left_after input read.all (sym (ap asks_for_input read.is_asked) ∙ none);
  unwritten = kept;
}

pub reading_ends : (call : Call) (task : Task) (f : StreamFault)
    → call.asked ≡ Some task → reads_input task ≡ true → IsOfReading f
    → (f ≡ stream.TooLong → IsFurther call.left call.left_after (most_bytes + 1))
    → ((f ≡ stream.TooLong → ⊥) → IsFurtherByAtMost call.left call.left_after most_bytes)
    → Keeps call.held call.held_after → EndsBy call (of_stream f)
reading_ends call task f e reads kind flooded stopped kept = grind (arith, common_steps, starved_reading)

faulty : (call : Call) (task : Task) (input : List ℕ) (fault : DeskFault)
    → IsRead call task input → IsFaultOf task input fault
    → Keeps call.held call.held_after → IsFaulty call fault
faulty call task input fault read found kept = record {
  task = task;
  input = input;
  read = read;
  found = found;
  unwritten = kept;
}

-- the task found a fault in its input, or memory ran out, and nothing was written
refused : (call : Call) (task : Task) (input : List ℕ) (fault : DeskFault)
    → IsRead call task input → Finds (IsFaultOf task input) fault
    → Keeps call.held call.held_after → EndsBy call fault
refused call task input fault read found kept = grind (arith, common_steps, starved_working, faulty)

-- the writer failed
cut_short : (call : Call) (task : Task) (input : List ℕ) (fault : DeskFault)
    → IsRead call task input
    → IsBrokenOff (IsTextOf task input) call.held call.held_after fault
    → EndsBy call fault
cut_short call task input fault read broken = grind (arith, common_steps)

pub work_ends : (call : Call) (task : Task) (input : List ℕ) (fault : DeskFault)
    → IsRead call task input
    → WorkEnds (IsTextOf task input) (IsFaultOf task input) call.held call.held_after fault
    → EndsBy call fault
work_ends call task input fault read ends = grind (arith, common_steps, cut_short, refused)

-- a fault of the work is not a fault of the words
found_no_help : (words : List Text) (IsFault : DeskFault → Type 0) (fault : DeskFault) → Finds IsFault fault
    → HelpsIfAsked words fault × TellsWords words fault
found_no_help words IsFault fault found = grind (arith, common_steps)

pub work_no_help : (words : List Text) (IsText : List ℕ → Type 0)
    (IsFault : DeskFault → Type 0) (held held' : Option (List ℕ)) (fault : DeskFault)
    → WorkEnds IsText IsFault held held' fault
    → HelpsIfAsked words fault × TellsWords words fault
work_no_help words IsText IsFault held held' fault ends = grind (arith, common_steps, found_no_help)
