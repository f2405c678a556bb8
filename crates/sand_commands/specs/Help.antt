-- How a text ends that is shown in place of a command's, as help is.
use Rattle.std.specs.Prelude.{ℕ, ◌≡◌, ◌≢◌, ◌⊎◌, ◌≤◌, List, length, take, Option, None, IfSome}
use Rattle.std.specs.Io.KnownBytes.{Appends, Keeps}
use Rattle.sand_commands.specs.declared.faults.DeskFault.{DeskFault}
use Rattle.sand_commands.specs.declared.faults.DeskFault.TheVariants.{Memory, Write}
use Rattle.sand_commands.specs.Faults.{status_of}

-- the writer took a whole text, which is `known` if that is given
pub record IsShown (known held held' : Option (List ℕ)) : Type 0 where
  pub text : List ℕ
  pub same : IfSome known (λ bytes. text ≡ bytes)
  pub written : Appends held held' text

-- the writer failed after it took part of a text, which is `known` if that is given
pub record IsShownInPart (known held held' : Option (List ℕ)) (ending : DeskFault) : Type 0 where
  pub text : List ℕ
  pub same : IfSome known (λ bytes. text ≡ bytes)
  pub sent : ℕ
  pub told : ending ≡ Write sent
  pub within : sent ≤ length text
  pub written : Appends held held' (take sent text)

-- the writer failed, or memory ran out and nothing was written
abbrev pub IsUnshown : Option (List ℕ) → Option (List ℕ) → Option (List ℕ) → DeskFault → Type 0
IsUnshown known held held' ending = IsShownInPart known held held' ending ⊎ ((ending ≡ Memory) × Keeps held held')

-- the words asked for help, and the writer took a whole text; clap does not say that it is the help
abbrev pub IsHelped : DeskFault → Option (List ℕ) → Option (List ℕ) → Type 0
IsHelped fault held held' = (status_of fault ≡ 0) × IsShown None held held'

-- no help was shown: the words did not ask for it, and their fault is returned; or the writer failed; or memory ran out
abbrev pub IsUnhelped : DeskFault → Option (List ℕ) → Option (List ℕ) → DeskFault → Type 0
IsUnhelped fault held held' ending = ((status_of fault ≢ 0) × (ending ≡ fault) × Keeps held held')
    ⊎ ((status_of fault ≡ 0) × IsUnshown None held held' ending)
