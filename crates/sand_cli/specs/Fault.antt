-- What an error says about the words, and its fault number.
use Rattle.std.specs.Prelude.{ℕ, ◌≡◌, ◌≢◌, ⊤, [], Option, Some}
use Rattle.clap.specs.Words.{IsAmong, Kinds, kind_of}
use Rattle.clap.specs.declared.error.Error.{Error}
use Rattle.clap.specs.declared.error.kind.ErrorKind.TheVariants.{DisplayHelp, OutOfMemory}
use Rattle.sand_cli.specs.declared.fault.Conflict.{Conflict}
use Rattle.sand_cli.specs.declared.fault.WordsFault.{WordsFault}
use Rattle.sand_cli.specs.declared.fault.WordsFault.TheVariants.{Clash, Memory, Usage}

-- the words are invalid, have conflicting options, or ask for help
abbrev pub IsUsage : WordsFault → Type 0
IsUsage Memory = ⊥
IsUsage (Usage error) = ⊤
IsUsage (Clash conflict) = ⊤

-- the error shows help
abbrev pub ShowsHelp : WordsFault → Type 0
ShowsHelp Memory = ⊥
ShowsHelp (Usage error) = kind_of error ≡ DisplayHelp
ShowsHelp (Clash conflict) = ⊥

-- memory ran out, or clap's error is of one of the kinds, or there is no such kind and options conflict
abbrev pub IsOfKinds : Kinds → WordsFault → Type 0
IsOfKinds kinds Memory = ⊤
IsOfKinds kinds (Usage error) = IsAmong (kind_of error) kinds
IsOfKinds kinds (Clash conflict) = kinds ≡ []

-- a reported conflict is the one in the words
abbrev pub TellsConflict : Option Conflict → WordsFault → Type 0
TellsConflict among Memory = ⊤
TellsConflict among (Usage error) = ⊤
TellsConflict among (Clash conflict) = among ≡ Some conflict

-- clap's error as a fault: it is kept, unless memory ran out
abbrev pub IsFaultOf : Error → WordsFault → Type 0
IsFaultOf error Memory = kind_of error ≡ OutOfMemory
IsFaultOf error (Usage kept) = (kept ≡ error) × (kind_of error ≢ OutOfMemory)
IsFaultOf error (Clash conflict) = ⊥

-- invalid words and calls for help share one number
abbrev pub words_fault_number : WordsFault → ℕ
words_fault_number Memory = 4
words_fault_number (Usage error) = 23
words_fault_number (Clash conflict) = 23
