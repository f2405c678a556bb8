-- What a task without the laboratory writes, and refuses, is what the task writes and refuses.
use Rattle.sand_desk.proofs.Common.{common_steps, arith, ℕ, List, inl, inr, ⊎_elim, Option, DeskFault, IsFaultOf, IsTextOf}
use Rattle.sand_cli.specs.declared.task.Task.{Task}
use Rattle.sand_commands.specs.Commands.{Finds, IsBrokenOff, IsFaultWithoutLab, IsRefused, IsTextWithoutLab, IsWritten, WorkEnds}

text_of : (task : Task) (input text : List ℕ) → IsTextWithoutLab task input text → IsTextOf task input text
text_of task input text is = grind (arith, common_steps)

fault_of : (task : Task) (input : List ℕ) (fault : DeskFault)
    → IsFaultWithoutLab task input fault → IsFaultOf task input fault
fault_of task input fault is = grind (arith, common_steps)

found : (task : Task) (input : List ℕ) (fault : DeskFault)
    → Finds (IsFaultWithoutLab task input) fault → Finds (IsFaultOf task input) fault
found task input fault is = grind (arith, common_steps, fault_of)

pub written : (task : Task) (input : List ℕ) (held held' : Option (List ℕ))
    → IsWritten (IsTextWithoutLab task input) held held' → IsWritten (IsTextOf task input) held held'
written task input held held' is =
    record { text = is.text; answer = text_of task input is.text is.answer; written = is.written }

pub ends : (task : Task) (input : List ℕ) (held held' : Option (List ℕ)) (fault : DeskFault)
    → WorkEnds (IsTextWithoutLab task input) (IsFaultWithoutLab task input) held held' fault
    → WorkEnds (IsTextOf task input) (IsFaultOf task input) held held' fault
ends task input held held' fault work =
    ⊎_elim
    (λ (broken : IsBrokenOff (IsTextWithoutLab task input) held held' fault). inl (record {
      sent = broken.sent;
      told = broken.told;
      text = broken.text;
      answer = text_of task input broken.text broken.answer;
      within = broken.within;
      written = broken.written;
    }))
    (λ (refused : IsRefused (IsFaultWithoutLab task input) held held' fault).
    inr (record { found = found task input fault refused.found; unwritten = refused.unwritten }))
    work
