-- The task that the words ask for.
use Rattle.std.specs.Prelude.{◌≡◌, ◌≤◌, ⊤, ℕ, Bool, true, not, ◌&&◌, ◌||◌, List, Option, Some, None, IfSome, is_some, unwrap_or, [], ◌∷◌, if◌then◌else◌, codes, option_and_then, option_map}
use Rattle.std.specs.Str.{bytes_eq}
use Rattle.clap.specs.Words.{Kinds, Row, Text, fault_of, subcommand_of}
use Rattle.clap.specs.declared.error.kind.ErrorKind.TheVariants.{DisplayHelp}
use Rattle.sand_wish.specs.Plans.{IsPlan}
use Rattle.sand_wish.specs.declared.wish.Wish.{Wish}
use Rattle.sand_cli.specs.Line.{command_line}
use Rattle.sand_cli.specs.Options.{flag_in, number_in, setting_in}
use Rattle.sand_cli.specs.declared.fault.Conflict.{Conflict}
use Rattle.sand_cli.specs.declared.fault.Conflict.TheVariants.{PileAndJournal, PileAndGraymap, PileAndTable, Uncounted}
use Rattle.sand_cli.specs.declared.task.Draw.{Draw}
use Rattle.sand_cli.specs.declared.task.Form.{Form}
use Rattle.sand_cli.specs.declared.task.Form.TheVariants as forms
use Rattle.sand_cli.specs.declared.task.Part.{Part}
use Rattle.sand_cli.specs.declared.task.Part.TheVariants as parts
use Rattle.sand_cli.specs.declared.task.Task.{Task}
use Rattle.sand_cli.specs.declared.task.Task.TheVariants.{Add, Burn, Drops, Identity, Inverse, Lab, Multiple, Recurrent, Settle}

-- the form in which the pile is written
abbrev pub form_in : List Row → Form
form_in options =
    if flag_in (codes "pile") options then forms.Pile
    else if flag_in (codes "pgm") options then forms.Graymap
    else forms.Text

-- the identity of a grid, if both sides are given
abbrev pub with_sides : List Row → Option ℕ → Option ℕ → Option Task
with_sides options (Some width) (Some height) =
    Some (Identity width height (flag_in (codes "cylinder") options) (flag_in (codes "pgm") options))
with_sides options _ _ = None

abbrev pub identity_of : List Row → Option Task
identity_of options = with_sides options (number_in (codes "width") options) (number_in (codes "height") options)

abbrev pub multiple_of : List Row → Option Task
multiple_of options =
    option_map (λ times. Multiple times (flag_in (codes "pgm") options)) (number_in (codes "times") options)

-- the run, if all settings are given
abbrev pub with_settings : Option ℕ → Option ℕ → Option ℕ → Option ℕ → Option ℕ → Option ℕ → Option ℕ → Option Wish
with_settings (Some seed) (Some droppers) (Some drops) (Some epochs) (Some workers) (Some sweeps) (Some observers) =
    Some (record {
      seed = seed;
      droppers = droppers;
      drops = drops;
      epochs = epochs;
      workers = workers;
      sweeps = sweeps;
      observers = observers;
    })
with_settings _ _ _ _ _ _ _ = None

-- the run that the options of `lab` ask for
abbrev pub wish_of : List Row → Option Wish
wish_of options = with_settings
    (setting_in (codes "seed") options) (setting_in (codes "droppers") options)
    (setting_in (codes "drops") options) (setting_in (codes "epochs") options)
    (setting_in (codes "workers") options) (setting_in (codes "sweeps") options)
    (setting_in (codes "observers") options)

abbrev pub lab_of : List Row → Option Task
lab_of options = option_map
    (λ wish. Lab wish (flag_in (codes "journal") options) (form_in options))
    (wish_of options)

-- a draw of `count` sites; the seed, the stream and the place in it default to 0
abbrev pub draw_by : Option ℕ → Option ℕ → Option ℕ → Option ℕ → Option Draw
draw_by None seed stream from = None
draw_by (Some count) seed stream from =
    Some (record { count = count; seed = unwrap_or seed 0; stream = unwrap_or stream 0; from = unwrap_or from 0 })

-- the draw in the options of `drops`, if there is one
abbrev pub draw_of : List Row → Option Draw
draw_of options = draw_by
    (setting_in (codes "count") options) (setting_in (codes "seed") options)
    (setting_in (codes "stream") options) (setting_in (codes "from") options)

abbrev pub part_in : List Row → Part
part_in options =
    if flag_in (codes "pile") options then parts.Pile
    else if flag_in (codes "table") options then parts.Table
    else parts.All

-- the task of a command, by its name and options
abbrev pub task_named : Text × List Row → Option Task
task_named (name, options) =
    let pgm = flag_in (codes "pgm") options in
    if bytes_eq name (codes "settle") then Some (Settle (form_in options))
    else if bytes_eq name (codes "burn") then Some Burn
    else if bytes_eq name (codes "identity") then identity_of options
    else if bytes_eq name (codes "drops") then Some (Drops (draw_of options) (part_in options))
    else if bytes_eq name (codes "add") then Some (Add pgm)
    else if bytes_eq name (codes "inverse") then Some (Inverse pgm)
    else if bytes_eq name (codes "multiple") then multiple_of options
    else if bytes_eq name (codes "recurrent") then Some (Recurrent pgm)
    else if bytes_eq name (codes "lab") then lab_of options
    else None

-- the kinds of error that clap reports for the words; none if it accepts them
abbrev pub faults : List Text → Kinds
faults words = fault_of command_line words

-- the answer, if there are no faults
abbrev pub unless : {A : Type 0} → Kinds → Option A → Option A
unless [] answer = answer
unless (k ∷ ks) answer = None

-- `--pile` together with another flag
abbrev pub pile_and : Text → List Row → Bool
pile_and other options = flag_in (codes "pile") options && flag_in other options

-- `drops` with `--seed`, `--stream` or `--from`, without `--count`
abbrev pub lacks_count : Text → List Row → Bool
lacks_count name options =
    bytes_eq name (codes "drops")
    && (not (is_some (setting_in (codes "count") options))
    && (is_some (setting_in (codes "seed") options) || is_some (setting_in (codes "stream") options)
    || is_some (setting_in (codes "from") options)))

-- the conflict among a command's options, if any
abbrev pub conflict_of : Text × List Row → Option Conflict
conflict_of (name, options) =
    if pile_and (codes "pgm") options then Some PileAndGraymap
    else if pile_and (codes "journal") options then Some PileAndJournal
    else if pile_and (codes "table") options then Some PileAndTable
    else if lacks_count name options then Some Uncounted
    else None

-- the conflict among the options in the words, if any
abbrev pub conflict_among : List Text → Option Conflict
conflict_among words = option_and_then conflict_of (subcommand_of command_line words)

-- the task, if no options conflict
abbrev pub freely : Option Conflict → Option Task → Option Task
freely None task = task
freely (Some conflict) task = None

-- the task that the words ask for, if the command line accepts them and no options conflict
abbrev pub asked : List Text → Option Task
asked words = unless (faults words)
    (freely (conflict_among words) (option_and_then task_named (subcommand_of command_line words)))

-- the words ask for help, and nothing else is wrong with them
abbrev pub AskForHelp : List Text → Type 0
AskForHelp words = faults words ≡ DisplayHelp ∷ []

-- the settings of the run are in range
pub record IsRun (wish : Wish) : Type 0 where
  pub seed : wish.seed ≤ 4294967295
  pub plan : IsPlan wish

-- the numbers of the draw are in range
pub record IsDraw (draw : Draw) : Type 0 where
  pub count : draw.count ≤ 4294967295
  pub seed : draw.seed ≤ 4294967295
  pub stream : draw.stream ≤ 4294967295
  pub from : draw.from ≤ 4294967295

-- `--journal` and `--pile` exclude each other
abbrev pub GoTogether : Bool → Form → Type 0
GoTogether true forms.Pile = ⊥
GoTogether journal form = ⊤

-- the task is within the limits: sides of a grid from 1 to 256, every other number in its range, and no conflict in the
-- options of `lab`
abbrev pub IsWithin : Task → Type 0
IsWithin (Identity width height cylinder pgm) = (1 ≤ width) × (width ≤ 256) × (1 ≤ height) × (height ≤ 256)
IsWithin (Drops drawn part) = IfSome drawn IsDraw
IsWithin (Multiple times pgm) = times ≤ 18446744073709551615
IsWithin (Lab wish journal form) = IsRun wish × GoTogether journal form
IsWithin _ = ⊤
