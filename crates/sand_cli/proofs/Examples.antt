-- The definitions, tried on example words; `program` is the first word.
use Rattle.sand_cli.proofs.Common.{◌≡◌, List, [], ◌∷◌, Option, None, Some, codes, false, refl, true, Text, asked, conflict_among, faults, Conflict, PileAndJournal, PileAndGraymap, PileAndTable, Uncounted, Task, Drops, Identity, Lab, Settle}
use Rattle.clap.specs.Words.{Kinds}
use Rattle.clap.specs.declared.error.kind.ErrorKind.TheVariants.{DisplayHelp, InvalidSubcommand, MissingRequiredArgument, MissingSubcommand, UnknownArgument, ValueValidation}
use Rattle.clap.proofs.OnLiterals.{clap_on_literals}
use Rattle.sand_cli.specs.Line.{command_line}
use Rattle.sand_cli.specs.declared.task.Form.TheVariants as forms
use Rattle.sand_cli.specs.declared.task.Part.TheVariants.{All}
use Rattle.sand_cli.proofs.Each.{Each}

-- what words ask for
tasks : (program : Text) → Each (λ (e : List Text × Task). asked (program ∷ e.0) ≡ Some e.1) (
    (codes "settle" ∷ [], Settle forms.Text)
    -- options may come in any order, and a number may follow `=`
    ∷ (
      codes "identity" ∷ codes "--pgm" ∷ codes "--height" ∷ codes "256" ∷ codes "--width=3" ∷ [],
      Identity 3 256 false true,
    )
    -- by default a draw starts at place 0 of stream 0 of seed 0
    ∷ (
      codes "drops" ∷ codes "--count" ∷ codes "5" ∷ [],
      Drops (Some (record { count = 5; seed = 0; stream = 0; from = 0 })) All,
    )
    -- `lab` alone asks for a run with the defaults
    ∷ (
      codes "lab" ∷ [],
      Lab (record { seed = 0; droppers = 2; drops = 100; epochs = 1; workers = 1; sweeps = 0; observers = 0 })
          false forms.Text,
    ) ∷ [])
unfolding command_line clap_on_literals
tasks program = (refl, (refl, (refl, (refl, tt))))

-- which options exclude each other
conflicts : (program : Text) → Each (λ (e : List Text × Option Conflict). conflict_among (program ∷ e.0) ≡ e.1) (
    (codes "settle" ∷ codes "--pgm" ∷ codes "--pile" ∷ [], Some PileAndGraymap)
    ∷ (codes "lab" ∷ codes "--pile" ∷ codes "--journal" ∷ [], Some PileAndJournal)
    ∷ (codes "lab" ∷ codes "--pgm" ∷ codes "--journal" ∷ [], None)
    ∷ (codes "drops" ∷ codes "--table" ∷ codes "--pile" ∷ [], Some PileAndTable)
    -- a seed needs a count, and so does a place in a stream
    ∷ (codes "drops" ∷ codes "--seed" ∷ codes "7" ∷ [], Some Uncounted)
    ∷ (codes "drops" ∷ codes "--from" ∷ codes "7" ∷ [], Some Uncounted) ∷ [])
unfolding command_line clap_on_literals
conflicts program = (refl, (refl, (refl, (refl, (refl, (refl, tt))))))

-- which words are rejected
no_word : faults [] ≡ MissingSubcommand ∷ []
unfolding command_line clap_on_literals
no_word = refl

rejections : (program : Text) → Each (λ (e : List Text × Kinds). faults (program ∷ e.0) ≡ e.1) (
    ([], MissingSubcommand ∷ [])
    -- `--help` shows help, and no other error is reported, even if a side is missing
    ∷ (codes "--help" ∷ [], DisplayHelp ∷ [])
    ∷ (codes "identity" ∷ codes "-h" ∷ [], DisplayHelp ∷ [])
    -- the word `help` is not a command
    ∷ (codes "help" ∷ [], UnknownArgument ∷ InvalidSubcommand ∷ [])
    ∷ (codes "topple" ∷ [], UnknownArgument ∷ InvalidSubcommand ∷ [])
    ∷ (codes "settle" ∷ codes "twice" ∷ [], UnknownArgument ∷ [])
    -- a side out of range, one side alone, and a setting out of range
    ∷ (codes "identity" ∷ codes "--width" ∷ codes "257" ∷ codes "--height" ∷ codes "2" ∷ [], ValueValidation ∷ [])
    ∷ (codes "identity" ∷ codes "--width" ∷ codes "3" ∷ [], MissingRequiredArgument ∷ [])
    ∷ (codes "lab" ∷ codes "--droppers" ∷ codes "65" ∷ [], ValueValidation ∷ []) ∷ [])
unfolding command_line clap_on_literals
rejections program = (refl, (refl, (refl, (refl, (refl, (refl, (refl, (refl, (refl, tt)))))))))
