-- How the work of a command ends in a fault.
use Rattle.sand_commands.proofs.Common.{common_steps, ℕ, List, arith, inr, Option, DeskFault, Finds, WorkEnds}
use Rattle.std.specs.Io.KnownBytes.{Keeps}

pub keeps : (held : Option (List ℕ)) → Keeps held held
keeps held = grind (arith, common_steps)

-- a fault of the work was found before anything was written
pub found_first : (IsText : List ℕ → Type 0) (IsFault : DeskFault → Type 0) (held : Option (List ℕ)) (fault : DeskFault)
    → Finds IsFault fault → WorkEnds IsText IsFault held held fault
found_first IsText IsFault held fault found = inr (record { found = found; unwritten = keeps held })
