-- What the words ask for: a command's task, the version or an explanation.
use Rattle.std.specs.Prelude.{ℕ, ⊤, ◌≡◌, Bool, true, false, ◌&&◌, ◌||◌, List, [], ◌∷◌, codes}
use Rattle.std.specs.Str.{bytes_eq}
use Rattle.sand_cli.specs.Names as names
use Rattle.sand_cli.specs.declared.requests.Request.{Request}
use Rattle.sand_cli.specs.declared.requests.Request.TheVariants as request

abbrev pub is_version : List ℕ → Bool
is_version word = bytes_eq word (codes "-V") || bytes_eq word (codes "--version")

-- the word is a command of the command line, or `explain`
abbrev pub is_command : List ℕ → Bool
is_command word = names.is_command word || bytes_eq word (codes "explain")

-- the words ask for the version, alone or after a command; the first word is the program's name
abbrev pub wants_version : List (List ℕ) → Bool
wants_version (name ∷ word ∷ []) = is_version word
wants_version (name ∷ command ∷ word ∷ []) = is_command command && is_version word
wants_version _ = false

abbrev pub wants_explanation : List (List ℕ) → Bool
wants_explanation (name ∷ command ∷ after) = bytes_eq command (codes "explain")
wants_explanation _ = false

-- an explanation is requested
abbrev pub IsOfExplain : Request → Type 0
IsOfExplain request.Version = ⊥
IsOfExplain request.Command = ⊥
IsOfExplain _ = ⊤

-- the request is what the words ask for
abbrev pub IsAsked : List (List ℕ) → Request → Type 0
IsAsked words request.Version = wants_version words ≡ true
IsAsked words request.Command = (wants_version words ≡ false) × (wants_explanation words ≡ false)
IsAsked words _ = (wants_version words ≡ false) × (wants_explanation words ≡ true)
