-- What the program reads and writes for what its words ask for.
use Rattle.std.specs.Prelude.{◌≢◌, Some, None, Result, OnOk, IfErr}
use Rattle.std.specs.Io.KnownBytes.{Keeps}
use Rattle.sand_cli.specs.declared.requests.Request.{Request}
use Rattle.sand_cli.specs.declared.requests.Request.TheVariants as request
use Rattle.sand_commands.specs.Help.{IsShown, IsShownInPart, IsUnshown}
use Rattle.sand_commands.specs.Version.{version_text}
use Rattle.sand_commands.specs.declared.faults.DeskFault.{DeskFault}
use Rattle.sand_commands.specs.Faults.{status_of}
use Rattle.sand_desk.specs.Commands.{Call, TellsWords}
use Rattle.sand_desk.specs.Helping.{IsPerformed, IsUnperformed}

-- what was asked for was done or written
abbrev pub IsAnswer : Request → Call → Type 0
IsAnswer request.Command call = IsPerformed call
IsAnswer request.Version call =
    Keeps call.left call.left_after × IsShown (Some version_text) call.held call.held_after
IsAnswer _ call = Keeps call.left call.left_after × IsShown None call.held call.held_after

-- how it ends with a fault
abbrev pub IsNoAnswer : Request → Call → DeskFault → Type 0
IsNoAnswer request.Command call fault = IsUnperformed call fault
IsNoAnswer request.Version call fault =
    Keeps call.left call.left_after × IsShownInPart (Some version_text) call.held call.held_after fault
IsNoAnswer _ call fault = Keeps call.left call.left_after × IsUnshown None call.held call.held_after fault

-- how a request ends: it was answered, or it failed, with a fault whose status is not 0
pub record RequestEnds (request : Request) (call : Call) (result : Result (Unit {0}) DeskFault) : Type 0 where
  pub done : OnOk result (IsAnswer request call)
  pub fault : IfErr result (IsNoAnswer request call)
  pub told : IfErr result (TellsWords call.words)
  pub status : IfErr result (λ e. status_of e ≢ 0)
