-- `drops --count` has the result of a laboratory run with one dropper.
use Rattle.std.specs.Prelude.{ℕ, ◌≡◌, Bool, List, Some}
use Rattle.sand_wish.specs.declared.wish.Wish.{Wish}
use Rattle.sand_cli.specs.declared.task.Draw.{Draw}
use Rattle.sand_cli.specs.declared.task.Form.{Form}
use Rattle.sand_cli.specs.declared.task.Form.TheVariants.{Pile}
use Rattle.sand_cli.specs.declared.task.Part.{Part}
use Rattle.sand_cli.specs.declared.task.Part.TheVariants as parts
use Rattle.sand_commands.specs.DropsCommand.{IsDropsText}
use Rattle.sand_desk.specs.Laboratory.{IsLabText}

-- a run of one epoch in which one dropper makes the drops of the draw: as many, with the same seed, at the sites of
-- stream 0
pub record DropsTheDraw (draw : Draw) (w : Wish) : Type 0 where
  pub stream : draw.stream ≡ 0
  pub from : draw.from ≡ 0
  pub seed : w.seed ≡ draw.seed
  pub droppers : w.droppers ≡ 1
  pub drops : w.drops ≡ draw.count
  pub epochs : w.epochs ≡ 1

-- both texts show the same settled record: its pile, the grains lost and the topplings
abbrev pub LeavesTheSame : Type 0
LeavesTheSame = (draw : Draw) (w : Wish) (part : Part) (journal : Bool) (form : Form) (input one other : List ℕ)
    → DropsTheDraw draw w → (drops : IsDropsText (Some draw) part input one)
    → (run : IsLabText w journal form input other)
    → drops.last.settled ≡ run.report.total.settled

-- so with `--pile` the texts are the same
abbrev pub WritesTheSamePile : Type 0
WritesTheSamePile = (draw : Draw) (w : Wish) (journal : Bool) (input one other : List ℕ) → DropsTheDraw draw w
    → IsDropsText (Some draw) parts.Pile input one → IsLabText w journal Pile input other → one ≡ other
