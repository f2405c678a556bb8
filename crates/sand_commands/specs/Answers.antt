-- What the parsers and writers return, with the program's faults.
use Rattle.std.specs.Prelude.{ℕ, ◌≡◌, List, Vec, Result, Ok, Err, IsOk, IfOk, IsOkUnless}
use Rattle.std.specs.declared.alloc.Global.{Global}
use Rattle.sand_text.specs.declared.fault.TextFault.{TextFault}
use Rattle.sand_commands.specs.declared.faults.DeskFault.{DeskFault}
use Rattle.sand_commands.specs.declared.faults.DeskFault.TheVariants as desk
use Rattle.sand_commands.specs.Faults.{of_text}

-- the text has this fault; memory runs out only if it has none
abbrev pub Fails : {A : Type 0} → DeskFault → Result A TextFault → Type 0
Fails desk.Memory read = IsOk read
Fails fault read = (why : TextFault) × (read ≡ Err why) × (fault ≡ of_text why)

-- the view of the result is the reading
abbrev pub ReadsAs : {A B : Type 0} → (A → B) → Result A DeskFault → Result B TextFault → Type 0
ReadsAs view (Ok value) read = read ≡ Ok (view value)
ReadsAs view (Err fault) read = Fails fault read

-- the result is this text, or memory ran out
pub record IsText (result : Result (Vec ℕ Global) DeskFault) (bytes : List ℕ) : Type 0 where
  pub text : IfOk result (λ v. v.items ≡ bytes)
  pub memory : IsOkUnless result desk.Memory
