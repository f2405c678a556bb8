-- The law of the laboratory: the piles, odometers, topplings and grains lost of a run are a function of start, seed,
-- droppers, drops and epochs alone.
use Rattle.std.specs.Prelude.{ℕ, ◌≡◌, ◌+◌, List, map, length, sum}
use Rattle.sand_model.specs.Piles.{PileView}
use Rattle.sand_settle.specs.Drops.{DrivenView}
use Rattle.sand_shared.specs.Record.{RecordView}
use Rattle.sand_wish.specs.declared.wish.Wish.{Wish}
use Rattle.sand_lab.specs.Reports.{ReportView, IsReport}

-- the state of one thread's pile after the history of a record
abbrev pub one_of : RecordView → DrivenView
one_of r = record { settled = r.settled; number = length r.history; grains = sum r.start.heights + length r.history }

-- the wishes differ at most in workers, sweeps and observers
pub record AskTheSame (w v : Wish) : Type 0 where
  pub seed : w.seed ≡ v.seed
  pub droppers : w.droppers ≡ v.droppers
  pub drops : w.drops ≡ v.drops
  pub epochs : w.epochs ≡ v.epochs

-- the reports have the same piles, odometers, topplings, grains lost and numbers of drops, in each epoch and in all
pub record AreAlike (p q : ReportView) : Type 0 where
  pub epochs : map one_of p.records ≡ map one_of q.records
  pub total : one_of p.total ≡ one_of q.total

-- however the drops of two runs interleave, and whoever sweeps meanwhile
abbrev pub OneOutcome : Type 0
OneOutcome = (album album' : List ℕ) (w v : Wish) (start : PileView) (p q : ReportView) → AskTheSame w v
    → IsReport album w start p → IsReport album' v start q → AreAlike p q
