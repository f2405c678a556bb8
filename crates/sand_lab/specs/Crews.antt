-- The crew of an epoch: its droppers, workers and observers, before and after their work.
use Rattle.std.specs.Prelude.{ℕ, ◌≡◌, ◌+◌, ◌*◌, ◌/◌, ◌<◌, ◌≤◌, List, [], length, sum, sum_by, take, drop, slice_get, vec_capacity, Some}
use Rattle.std.specs.Int.{div_ceil}
use Rattle.sand_model.specs.Grid.{sites}
use Rattle.sand_model.specs.Piles.{PileView}
use Rattle.sand_shared.specs.declared.rows.Rows.{Rows}
use Rattle.sand_shared.specs.Events.{zeros}
use Rattle.sand_shared.specs.OpenPile.{grid_of_terms}
use Rattle.sand_shared.specs.Passes.{SharedView, PassView, AllBelow}
use Rattle.sand_shared.specs.Rows.{no_rows, rows_between, count_of}
use Rattle.sand_lab.specs.declared.crew.Crew.{Crew}
use Rattle.sand_lab.specs.declared.droppers.Dropper.{Dropper}
use Rattle.sand_lab.specs.declared.observers.Observer.{Observer}
use Rattle.sand_wish.specs.declared.wish.Wish.{Wish}
use Rattle.sand_lab.specs.declared.workers.Worker.{Worker}
use Rattle.sand_lab.specs.Jobs.{Climbs}
use Rattle.sand_lab.specs.Journals.{Ascends, receipt_sites}
use Rattle.sand_lab.specs.Streams.{stream_of, stream_sites}

-- P holds of each element at its index
abbrev pub EachAt : {A : Type 0} → (ℕ → A → Type 0) → List A → Type 0
EachAt P xs = (i : ℕ) (x : _) → slice_get xs i ≡ Some x → P i x

-- how many tallies an observer reads
abbrev pub tallies_each : ℕ
tallies_each = 16

-- the rows of a worker, shared out as evenly as possible
abbrev pub band : ℕ → ℕ → ℕ → Rows
band height workers j = rows_between (j * height / workers) ((j + 1) * height / workers)

-- a lower bound on the topplings of these rows from these heights: 4 grains at a time, without deliveries
abbrev pub due : PileView → Rows → ℕ
due p rows = sum_by (λ h. h / 4) (take (count_of rows * p.grid.width) (drop (rows.first * p.grid.width) p.heights))

-- Passes

-- a pass with a quota and no rows
abbrev pub rowless : SharedView → ℕ → PassView
rowless s quota = record {
  table = s.table;
  grid = grid_of_terms s.terms;
  left = quota;
  seen = 0;
  receipts = [];
  rows = no_rows;
  counts = [];
}

-- a pass with a quota and the rows above `end`, none of them toppled
abbrev pub upper_part : SharedView → ℕ → ℕ → PassView
upper_part s quota end = record (rowless s quota) {
  rows = record { first = 0; end = end };
  counts = zeros ((grid_of_terms s.terms).width * end);
}

-- a pass with a quota and all rows, like the first one
abbrev pub unshared : SharedView → ℕ → PassView
unshared s quota = upper_part s quota (grid_of_terms s.terms).height

-- a pass with rows, none of them toppled, and no quota
abbrev pub banded : SharedView → Rows → PassView
banded s rows = record (rowless s 0) { rows = rows; counts = zeros (count_of rows * (grid_of_terms s.terms).width) }

-- Before

pub record IsDropper (s : SharedView) (w : Wish) (epoch k : ℕ) (d : Dropper) : Type 0 where
  pub who : d.who ≡ k
  pub sites : d.sites
      ≡ record { sites = sites (grid_of_terms s.terms); seed = w.seed; stream = stream_of epoch k; read = 0 }
  pub pass : d.pass ≡ rowless s w.drops
  pub none_read : d.batch.items ≡ []
  pub room : div_ceil w.drops 16 ≤ vec_capacity d.batch
  pub counts : d.counts ≡ grid_of_terms s.terms

pub record IsWorker (s : SharedView) (workers j : ℕ) (x : Worker) : Type 0 where
  pub who : x.who ≡ j
  pub swept : x.swept ≡ 0
  pub pass : x.pass ≡ banded s (band (grid_of_terms s.terms).height workers j)

pub record IsObserver (s : SharedView) (i : ℕ) (o : Observer) : Type 0 where
  pub who : o.who ≡ i
  pub tallies : o.tallies.items ≡ []
  pub room : tallies_each ≤ vec_capacity o.tallies
  pub pass : o.pass ≡ rowless s 0

-- a crew that has not begun
pub record IsCrew (s : SharedView) (w : Wish) (epoch : ℕ) (c : Crew) : Type 0 where
  pub droppers : EachAt (IsDropper s w epoch) c.droppers.items
  pub all_droppers : length c.droppers.items ≡ w.droppers
  pub workers : EachAt (IsWorker s w.workers) c.workers.items
  pub all_workers : length c.workers.items ≡ w.workers
  pub observers : EachAt (IsObserver s) c.observers.items
  pub all_observers : length c.observers.items ≡ w.observers

-- After

-- it has dropped its whole quota at the sites of its stream, in order
pub record HasDroppedItsStream (s : SharedView) (w : Wish) (epoch k : ℕ) (d : Dropper) : Type 0 where
  pub pass : d.pass ≡ record (rowless s 0) { seen = d.pass.seen; receipts = d.pass.receipts }
  pub sites : receipt_sites d.pass.receipts
      ≡ stream_sites (sites (grid_of_terms s.terms)) w.seed (stream_of epoch k) w.drops
  pub ascends : Ascends d.pass.receipts
  pub within : AllBelow s.terms.quota d.pass.receipts

-- it has swept its band; if at least once, it has toppled what was due there
pub record HasSweptItsBand (s : SharedView) (w : Wish) (j : ℕ) (x : Worker) : Type 0 where
  pub pass : x.pass ≡ record (banded s (band (grid_of_terms s.terms).height w.workers j)) { counts = x.pass.counts }
  pub swept : x.swept ≡ sum x.pass.counts
  pub enough : 0 < w.sweeps → due s.terms.start (band (grid_of_terms s.terms).height w.workers j) ≤ x.swept

-- it has read its tallies, which never fell and never exceeded the quota
pub record HasReadItsTallies (s : SharedView) (i : ℕ) (o : Observer) : Type 0 where
  pub pass : o.pass ≡ record (rowless s 0) { seen = o.pass.seen }
  pub sixteen : length o.tallies.items ≡ tallies_each
  pub climbs : Climbs 0 o.tallies.items s.terms.quota

-- a crew that has done its work
pub record HasWorked (s : SharedView) (w : Wish) (epoch : ℕ) (c : Crew) : Type 0 where
  pub droppers : EachAt (HasDroppedItsStream s w epoch) c.droppers.items
  pub all_droppers : length c.droppers.items ≡ w.droppers
  pub workers : EachAt (HasSweptItsBand s w) c.workers.items
  pub all_workers : length c.workers.items ≡ w.workers
  pub observers : EachAt (HasReadItsTallies s) c.observers.items
  pub all_observers : length c.observers.items ≡ w.observers

-- a crew that has done its work in some epoch of some plan
pub record HasWorkedOnce (s : SharedView) (c : Crew) : Type 0 where
  pub wish : Wish
  pub epoch : ℕ
  pub some : 0 < wish.workers
  pub worked : HasWorked s wish epoch c

-- in any epoch, its work has turned the crew c into d
pub record HasBecome (s : SharedView) (w : Wish) (c d : Crew) : Type 0 where
  pub worked : (epoch : ℕ) → IsCrew s w epoch c → HasWorked s w epoch d
