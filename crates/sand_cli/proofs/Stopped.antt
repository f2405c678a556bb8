-- A walk that meets a command passes it all the words after its name.
use Rattle.sand_cli.proofs.Common.{◌≡◌, ◌∙◌, List, [], ◌∷◌, ◌++◌, Some, refl, sym, ap, fold, append_assoc, Names, Rule, Walk, Shape}
use Rattle.std.proofs.lemmas.List.{append-nil}
use Rattle.clap.specs.Walk.{Text, walked}
use Rattle.clap.specs.Faults.{walk_fault}

-- the walk, stopped at this command with these words after its name
abbrev pub stopped_at : Walk → Text → List Text → Walk
stopped_at w name words = record w { stopped = Some (name, words) }

pub stays : (c : List Rule) (names : Names) (w : Walk) (name : Text) (before words : List Text)
    → fold (walked c names) (stopped_at w name before) words ≡ stopped_at w name (before ++ words)
unfolding walked
stays c names w name before [] = ap (stopped_at w name) (sym (append-nil before))
stays c names w name before (word ∷ words) =
    stays c names w name (before ++ word ∷ []) words ∙ ap (stopped_at w name) (append_assoc before (word ∷ []) words)

pub passes_stopped : (s : Shape) (names : Names) (w : Walk) (name : Text) (before words : List Text)
    → walk_fault s names (stopped_at w name before) words ≡ []
unfolding walked walk_fault
passes_stopped s names w name before [] = refl
passes_stopped s names w name before (word ∷ words) = passes_stopped s names w name (before ++ word ∷ []) words
