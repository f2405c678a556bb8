-- What becomes of the passes of a crew when they are gathered.
use Rattle.std.specs.Prelude.{ℕ, ◌≡◌, List, map}
use Rattle.std.specs.List.{flat_map}
use Rattle.sand_shared.specs.declared.view.Receipt.{Receipt}
use Rattle.sand_shared.specs.OpenPile.{grid_of_terms}
use Rattle.sand_shared.specs.Passes.{SharedView, PassView, IsPassOf}
use Rattle.sand_lab.specs.declared.crew.Crew.{Crew}
use Rattle.sand_lab.specs.declared.droppers.Dropper.{Dropper}
use Rattle.sand_lab.specs.declared.observers.Observer.{Observer}
use Rattle.sand_lab.specs.declared.workers.Worker.{Worker}
use Rattle.sand_lab.specs.Crews.{band, banded, rowless}

-- a pass with only receipts
abbrev pub HoldsReceipts : SharedView → PassView → Type 0
HoldsReceipts s p = p ≡ record (rowless s 0) { seen = p.seen; receipts = p.receipts }

-- a pass with nothing
abbrev pub HoldsNothing : SharedView → PassView → Type 0
HoldsNothing s p = p ≡ record (rowless s 0) { seen = p.seen }

-- the pass of worker j of n: the rows of its band, and nothing else
abbrev pub HoldsBand : SharedView → ℕ → ℕ → Worker → Type 0
HoldsBand s n j x = x.pass ≡ record (banded s (band (grid_of_terms s.terms).height n j)) { counts = x.pass.counts }

-- the receipts of each dropper
abbrev pub parts_of : List Dropper → List (List Receipt)
parts_of droppers = map (λ (d : Dropper). d.pass.receipts) droppers

-- the receipts of all droppers, one dropper after another
abbrev pub all_receipts : List Dropper → List Receipt
all_receipts droppers = flat_map (λ (d : Dropper). d.pass.receipts) droppers

-- the counts of the workers, in the order of their bands
abbrev pub all_counts : List Worker → List ℕ
all_counts workers = flat_map (λ (x : Worker). x.pass.counts) workers

abbrev pub all_swept : List Worker → List ℕ
all_swept workers = map (λ (x : Worker). x.swept) workers

abbrev pub readings : List Observer → List (List ℕ)
readings observers = map (λ (o : Observer). o.tallies.items) observers

-- a pass that has gathered a crew: the receipts of all droppers, all rows, and no quota left
pub record HasGathered (s : SharedView) (c : Crew) (p : PassView) : Type 0 where
  pub of_pile : IsPassOf s p
  pub left : p.left ≡ 0
  pub receipts : p.receipts ≡ all_receipts c.droppers.items
  pub rows : p.rows ≡ record { first = 0; end = (grid_of_terms s.terms).height }
  pub counts : p.counts ≡ all_counts c.workers.items
