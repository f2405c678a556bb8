-- The limits of a run, and its numbers of drops.
use Rattle.std.specs.Prelude.{ℕ, ◌≤◌, ◌*◌}
use Rattle.sand_wish.specs.declared.wish.Wish.{Wish}

abbrev pub most_droppers : ℕ
most_droppers = 64

abbrev pub most_drops : ℕ
most_drops = 1000000

abbrev pub most_epochs : ℕ
most_epochs = 100

abbrev pub most_workers : ℕ
most_workers = 16

abbrev pub most_sweeps : ℕ
most_sweeps = 1000

abbrev pub most_observers : ℕ
most_observers = 16

pub record IsPlan (w : Wish) : Type 0 where
  pub some_droppers : 1 ≤ w.droppers
  pub droppers : w.droppers ≤ most_droppers
  pub drops : w.drops ≤ most_drops
  pub some_epochs : 1 ≤ w.epochs
  pub epochs : w.epochs ≤ most_epochs
  pub some_workers : 1 ≤ w.workers
  pub workers : w.workers ≤ most_workers
  pub sweeps : w.sweeps ≤ most_sweeps
  pub observers : w.observers ≤ most_observers

-- the drops of an epoch
abbrev pub quota_of : Wish → ℕ
quota_of w = w.droppers * w.drops

-- the drops of a run
abbrev pub all_drops : Wish → ℕ
all_drops w = quota_of w * w.epochs
