-- The words that spell a task, written out by hand.
use Rattle.std.specs.Prelude.{◌≡◌, Bool, Option, Some, None, List, [], ◌∷◌, ◌++◌, MatchResult, Result, if◌then◌else◌, codes, decimal}
use Rattle.clap.specs.Words.{Text}
use Rattle.sand_cli.specs.Asked.{IsWithin}
use Rattle.sand_cli.specs.declared.fault.WordsFault.{WordsFault}
use Rattle.sand_cli.specs.declared.fault.WordsFault.TheVariants.{Memory}
use Rattle.sand_cli.specs.declared.task.Draw.{Draw}
use Rattle.sand_cli.specs.declared.task.Form.{Form}
use Rattle.sand_cli.specs.declared.task.Form.TheVariants as forms
use Rattle.sand_cli.specs.declared.task.Part.{Part}
use Rattle.sand_cli.specs.declared.task.Part.TheVariants as parts
use Rattle.sand_wish.specs.declared.wish.Wish.{Wish}
use Rattle.sand_cli.specs.declared.task.Task.{Task}
use Rattle.sand_cli.specs.declared.task.Task.TheVariants.{Add, Burn, Drops, Identity, Inverse, Lab, Multiple, Recurrent, Settle}

-- a flag, if it is wanted
abbrev pub flag_words : Text → Bool → List Text
flag_words flag wanted = if wanted then flag ∷ [] else []

abbrev pub form_words : Form → List Text
form_words forms.Text = []
form_words forms.Pile = codes "--pile" ∷ []
form_words forms.Graymap = codes "--pgm" ∷ []

abbrev pub settings_of : Wish → List Text
settings_of wish =
    codes "--seed" ∷ decimal wish.seed ∷ codes "--droppers" ∷ decimal wish.droppers
    ∷ codes "--drops" ∷ decimal wish.drops ∷ codes "--epochs" ∷ decimal wish.epochs
    ∷ codes "--workers" ∷ decimal wish.workers ∷ codes "--sweeps" ∷ decimal wish.sweeps
    ∷ codes "--observers" ∷ decimal wish.observers ∷ []

abbrev pub draw_words : Option Draw → List Text
draw_words None = []
draw_words (Some draw) =
    codes "--count" ∷ decimal draw.count ∷ codes "--seed" ∷ decimal draw.seed
    ∷ codes "--stream" ∷ decimal draw.stream ∷ codes "--from" ∷ decimal draw.from ∷ []

abbrev pub part_words : Part → List Text
part_words parts.All = []
part_words parts.Table = codes "--table" ∷ []
part_words parts.Pile = codes "--pile" ∷ []

-- the words after the program's name
abbrev pub words_of : Task → List Text
words_of (Settle form) = codes "settle" ∷ form_words form
words_of Burn = codes "burn" ∷ []
words_of (Identity width height cylinder pgm) =
    codes "identity" ∷ codes "--width" ∷ decimal width ∷ codes "--height" ∷ decimal height
    ∷ (flag_words (codes "--cylinder") cylinder ++ flag_words (codes "--pgm") pgm)
words_of (Drops drawn part) = codes "drops" ∷ (draw_words drawn ++ part_words part)
words_of (Add pgm) = codes "add" ∷ flag_words (codes "--pgm") pgm
words_of (Inverse pgm) = codes "inverse" ∷ flag_words (codes "--pgm") pgm
words_of (Multiple times pgm) = codes "multiple" ∷ codes "--times" ∷ decimal times ∷ flag_words (codes "--pgm") pgm
words_of (Recurrent pgm) = codes "recurrent" ∷ flag_words (codes "--pgm") pgm
words_of (Lab wish journal form) =
    codes "lab" ∷ (settings_of wish ++ (flag_words (codes "--journal") journal ++ form_words form))

-- words that spell a task, after any program name, parse to that task unless memory runs out
abbrev pub Heeds : List Text → Result Task WordsFault → Type 0
Heeds words answer = (program : Text) (task : Task) → IsWithin task → words ≡ program ∷ words_of task
    → MatchResult answer (λ t. t ≡ task) (λ fault. fault ≡ Memory)
