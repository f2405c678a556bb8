-- How a command ends whose words may ask for help instead.
use Rattle.std.specs.Prelude.{◌≡◌, ◌⊎◌, None}
use Rattle.std.specs.Io.KnownBytes.{Keeps}
use Rattle.sand_commands.specs.declared.faults.DeskFault.{DeskFault}
use Rattle.sand_commands.specs.Faults.{status_of}
use Rattle.sand_commands.specs.Help.{IsHelped, IsUnshown}
use Rattle.sand_desk.specs.Commands.{Call, EndsBy, HelpsIfAsked, IsDone, TellsWords}

-- the words ask for help, which the writer took, and nothing was read
pub record IsHelpShown (call : Call) : Type 0 where
  pub help : DeskFault
  pub told : TellsWords call.words help
  pub asked : HelpsIfAsked call.words help
  pub unread : Keeps call.left call.left_after
  pub shown : IsHelped help call.held call.held_after

-- the words ask for help, but the writer failed or memory ran out, and nothing was read
pub record IsHelpUnshown (call : Call) (fault : DeskFault) : Type 0 where
  pub help : DeskFault
  pub told : TellsWords call.words help
  pub asked : HelpsIfAsked call.words help
  pub is_help : status_of help ≡ 0
  pub unread : Keeps call.left call.left_after
  pub unshown : IsUnshown None call.held call.held_after fault

-- a command was done, or its help shown
abbrev pub IsPerformed : Call → Type 0
IsPerformed call = IsDone call ⊎ IsHelpShown call

-- how a command ends with a fault
abbrev pub IsUnperformed : Call → DeskFault → Type 0
IsUnperformed call fault = EndsBy call fault ⊎ IsHelpUnshown call fault
