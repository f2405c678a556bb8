-- A command whose words ask for help: nothing was read or written before the help is shown.
use Rattle.sand_desk.proofs.Common.{common_steps, ◌≡◌, ℕ, List, arith, Option, None, Appends, Keeps, Call, EndsBy, HelpsIfAsked, IsMisuse, TellsWords, call_of, status_of, DeskFault}
use Rattle.std.proofs.KnownBytes.{Keeps-trans}
use Rattle.sand_commands.specs.Help.{IsUnhelped, IsUnshown}
use Rattle.sand_desk.specs.Helping.{IsUnperformed}

no_help : {A : Type 0} → (◌≡◌ {A = ℕ} 1 0) → A
no_help e = absurd (omega (arith, e))

misuse : (call : Call) (fault : DeskFault) → status_of fault ≡ 0 → EndsBy call fault → IsMisuse call
misuse call fault e ends = grind (arith, common_steps, no_help)

appends_after : (held mid held' : Option (List ℕ)) (bytes : List ℕ)
    → Keeps held mid → Appends mid held' bytes → Appends held held' bytes
appends_after held mid held' bytes kept grown = grind (arith, common_steps)

unshown : (held mid held' : Option (List ℕ)) (ending : DeskFault)
    → Keeps held mid → IsUnshown None mid held' ending → IsUnshown None held held' ending
unshown held mid held' ending kept ends = grind (arith, common_steps, appends_after, Keeps-trans)

pub unhelped : (words : List (List ℕ)) (left left' held mid held' : Option (List ℕ)) (fault ending : DeskFault)
    → TellsWords words fault → HelpsIfAsked words fault → EndsBy (call_of words left left' held mid) fault
    → status_of fault ≡ 0 → IsUnhelped fault mid held' ending
    → IsUnperformed (call_of words left left' held held') ending
unhelped words left left' held mid held' fault ending told asked ends is_help unshown_then =
    grind (arith, common_steps, misuse, unshown)
