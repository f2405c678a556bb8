-- What droppers, workers and observers do with their passes in a number of turns.
use Rattle.std.specs.Prelude.{ℕ, ◌≡◌, ◌+◌, ◌-◌, ◌*◌, ◌<◌, ◌≤◌, List, [], ◌∷◌, ◌++◌, All, length, sum, slice_index, vec_capacity}
use Rattle.std.specs.Int.{div_ceil}
use Rattle.sand_model.specs.Grid.{sites}
use Rattle.sand_shared.specs.OpenPile.{grid_of_terms}
use Rattle.sand_shared.specs.Passes.{SharedView, IsPassOf, AllBelow, at_rest}
use Rattle.sand_shared.specs.Sweeps.{LeavesAtMost}
use Rattle.sand_lab.specs.Journals.{Ascends, receipt_sites}
use Rattle.sand_lab.specs.Streams.{stream_sites}
use Rattle.sand_lab.specs.declared.droppers.Dropper.{Dropper}
use Rattle.sand_lab.specs.declared.workers.Worker.{Worker}
use Rattle.sand_lab.specs.declared.observers.Observer.{Observer}

-- Droppers

-- a dropper that has not begun, has `turns` grains to drop, and has room for a batch of a sixteenth of them
pub record CanDrop (s : SharedView) (turns : ℕ) (d : Dropper) : Type 0 where
  pub of_pile : IsPassOf s d.pass
  pub left : d.pass.left ≡ turns
  pub no_receipts : d.pass.receipts ≡ []
  pub unread : d.sites.read ≡ 0
  pub grid : d.sites.sites ≡ sites (grid_of_terms s.terms)
  pub none_read : d.batch.items ≡ []
  pub room : div_ceil turns 16 ≤ vec_capacity d.batch
  pub counts : d.counts ≡ grid_of_terms s.terms

-- the dropper d became e: it has read `read` sites of its stream, and has dropped on all except those in its batch
pub record IsDropping (s : SharedView) (turns read : ℕ) (d e : Dropper) : Type 0 where
  pub who : e.who ≡ d.who
  pub of_pile : IsPassOf s e.pass
  pub kept : e.pass ≡ record d.pass { left = e.pass.left; seen = e.pass.seen; receipts = e.pass.receipts }
  pub left : e.pass.left + read ≡ turns + length e.batch.items
  pub may_read : read ≤ turns
  pub room : div_ceil turns 16 ≤ vec_capacity e.batch
  pub counts : e.counts ≡ grid_of_terms s.terms
  pub grid : d.sites.sites ≡ sites (grid_of_terms s.terms)
  pub reading : e.sites ≡ record d.sites { read = read }
  pub inside : All (λ i. i < sites (grid_of_terms s.terms)) e.batch.items
  pub sites : receipt_sites e.pass.receipts ++ e.batch.items
      ≡ stream_sites d.sites.sites d.sites.seed d.sites.stream read
  pub ascends : Ascends e.pass.receipts
  pub within : AllBelow s.terms.quota e.pass.receipts
  pub below : AllBelow e.pass.seen e.pass.receipts

-- a dropper that has begun
pub record HasBegun (s : SharedView) (e : Dropper) : Type 0 where
  pub turns : ℕ
  pub read : ℕ
  pub first : Dropper
  pub dropping : IsDropping s turns read first e

-- and has a site to read
pub record HasSiteToRead (s : SharedView) (turns : ℕ) (e : Dropper) : Type 0 where
  pub read : ℕ
  pub first : Dropper
  pub more : read < turns
  pub dropping : IsDropping s turns read first e

-- in `turns` turns d became e: it has dropped a grain in each, at the sites of its stream, in order
pub record TookDropTurns (s : SharedView) (turns : ℕ) (d e : Dropper) : Type 0 where
  pub who : e.who ≡ d.who
  pub of_pile : IsPassOf s e.pass
  pub kept : e.pass ≡ record d.pass { left = 0; seen = e.pass.seen; receipts = e.pass.receipts }
  pub sites : receipt_sites e.pass.receipts ≡ stream_sites d.sites.sites d.sites.seed d.sites.stream turns
  pub ascends : Ascends e.pass.receipts
  pub within : AllBelow s.terms.quota e.pass.receipts

-- Workers

-- what a worker has swept is what has toppled in its rows
pub record CanSweep (s : SharedView) (w : Worker) : Type 0 where
  pub of_pile : IsPassOf s w.pass
  pub swept : w.swept ≡ sum w.pass.counts

-- in `turns` turns w became x: it has swept its rows in each; if at least once, each site has toppled at least k div 4
-- times (k as in `Sweeps` of sand_shared)
pub record TookSweepTurns (s : SharedView) (turns : ℕ) (w x : Worker) : Type 0 where
  pub who : x.who ≡ w.who
  pub can : CanSweep s x
  pub kept : x.pass ≡ record w.pass { counts = x.pass.counts }
  pub same_rows : length x.pass.counts ≡ length w.pass.counts
  pub never_fall : (j : ℕ) → slice_index w.pass.counts j ≤ slice_index x.pass.counts j
  pub enough : 0 < turns → (j : ℕ) → j < length w.pass.counts
      → LeavesAtMost s.terms (at_rest w.pass) ((at_rest w.pass).base + j)
      (4 * (slice_index x.pass.counts j - slice_index w.pass.counts j) + 3)

-- Observers

-- the tallies never fall, begin at `from` or above, and are at most `to`
abbrev pub Climbs : ℕ → List ℕ → ℕ → Type 0
Climbs from [] to = from ≤ to
Climbs from (n ∷ ns) to = (from ≤ n) × Climbs n ns to

-- an observer that has not begun, with room for `turns` tallies
pub record CanTally (s : SharedView) (turns : ℕ) (o : Observer) : Type 0 where
  pub of_pile : IsPassOf s o.pass
  pub no_tallies : o.tallies.items ≡ []
  pub room : turns ≤ vec_capacity o.tallies

-- in `turns` turns o became p: it has read a tally in each, at most the quota
pub record TookTallyTurns (s : SharedView) (turns : ℕ) (o p : Observer) : Type 0 where
  pub who : p.who ≡ o.who
  pub of_pile : IsPassOf s p.pass
  pub kept : p.pass ≡ record o.pass { seen = p.pass.seen }
  pub as_many : length p.tallies.items ≡ turns
  pub climbs : Climbs 0 p.tallies.items p.pass.seen
  pub within : All (λ n. n ≤ s.terms.quota) p.tallies.items
