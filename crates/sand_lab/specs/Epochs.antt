-- A closed epoch: a record, its journal, the tallies that its observers read, and what its workers swept.
use Rattle.std.specs.Prelude.{ℕ, ◌≡◌, ◌<◌, ◌≤◌, List, All, length, map, sum, slice_index}
use Rattle.sand_model.specs.Grid.{sites}
use Rattle.sand_model.specs.Piles.{PileView}
use Rattle.sand_model.specs.Sand.{sum_below, occurrences}
use Rattle.sand_wish.specs.declared.wish.Wish.{Wish}
use Rattle.sand_wish.specs.Plans.{quota_of}
use Rattle.sand_shared.specs.Record.{RecordView, IsOneThreads}
use Rattle.sand_lab.specs.declared.epochs.ClosedEpoch.{ClosedEpoch}
use Rattle.sand_lab.specs.declared.journal.Entry.{Entry}
use Rattle.sand_lab.specs.Crews.{band, due, tallies_each}
use Rattle.sand_lab.specs.Jobs.{Climbs}
use Rattle.sand_lab.specs.Journals.{FollowsStreams, sites_in}
use Rattle.sand_lab.specs.Streams.{stream_of, stream_sites}

-- the tallies of each observer never fell and never exceeded the quota
pub record AreTallies (w : Wish) (tallies : List (List ℕ)) : Type 0 where
  pub all : length tallies ≡ w.observers
  pub as_many : All (λ ts. length ts ≡ tallies_each) tallies
  pub climb : All (λ ts. Climbs 0 ts (quota_of w)) tallies

-- the workers caused at most all of the topplings; with at least one sweep, each caused at least those due in its band
pub record AreSwept (w : Wish) (start : PileView) (r : RecordView) (swept : List ℕ) : Type 0 where
  pub all : length swept ≡ w.workers
  pub bound : sum swept ≤ r.settled.topplings
  pub enough : 0 < w.sweeps → (j : ℕ) → j < w.workers
      → due start (band start.grid.height w.workers j) ≤ slice_index swept j

-- epoch t is closed: the history has the drops of the journal, and there each dropper has the sites of its stream
pub record IsClosed (w : Wish) (start : PileView) (t : ℕ) (r : RecordView)
    (journal : List Entry) (tallies : List (List ℕ)) (swept : List ℕ) : Type 0 where
  pub one_threads : IsOneThreads r
  pub from_start : r.start ≡ start
  pub history : sites_in journal ≡ r.history
  pub streams : FollowsStreams (sites start.grid) w.seed w.droppers w.drops t journal
  -- the history has each site as often as all streams together
  pub by_site : (i : ℕ) → occurrences r.history i
      ≡ sum_below w.droppers (λ k. occurrences (stream_sites (sites start.grid) w.seed (stream_of t k) w.drops) i)
  pub observers : AreTallies w tallies
  pub workers : AreSwept w start r swept

-- c is closed as epoch t, and has a copy of its record for the album
pub record IsClosedEpoch (w : Wish) (start : PileView) (t : ℕ) (c : ClosedEpoch) : Type 0 where
  pub closed : IsClosed w start t c.closed
      c.journal.items (map (λ ts. ts.items) c.findings.tallies.items) c.findings.swept.items
  pub shown : c.shown ≡ c.closed
