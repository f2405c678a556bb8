-- How a text of the program itself ends: it was written, the writer failed, or memory ran out.
use Rattle.sand_desk.proofs.Common.{◌≡◌, ◌≢◌, ℕ, List, sym, subst, arith, ⊎_elim, Option, Keeps, TellsWords, status_of, DeskFault}
use Rattle.sand_commands.specs.Help.{IsShownInPart, IsUnshown}
use Rattle.sand_commands.specs.declared.faults.DeskFault.TheVariants.{Memory}

-- a failed writer or failed allocation is no fault of the words, and no call for help
pub unshown_tells : (words : List (List ℕ)) (known held held' : Option (List ℕ)) (fault : DeskFault)
    → IsUnshown known held held' fault → TellsWords words fault × (status_of fault ≢ 0)
unshown_tells words known held held' fault ends =
    let P : DeskFault → Type 0 = λ e. TellsWords words e × (status_of e ≢ 0) in
    ⊎_elim
    (λ (part : IsShownInPart known held held' fault). subst P (sym part.told) (tt, omega arith))
    (λ (starved : (fault ≡ Memory) × Keeps held held'). subst P (sym starved.0) (tt, omega arith))
    ends
