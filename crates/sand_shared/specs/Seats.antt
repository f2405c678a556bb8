-- What contracts of steps see of the table of words and of a pass's seat.
use Rattle.std.specs.Prelude.{ℕ, true, ◌≡◌, ◌+◌, ◌<◌, ◌≤◌, [], length}
use Rattle.atomic_table.specs.declared.shared.Seat.{Seat}
use Rattle.sand_model.specs.Grid.{Grid, sites}
use Rattle.sand_shared.specs.declared.view.View.{View}
use Rattle.sand_shared.specs.declared.view.Terms.{Terms}
use Rattle.sand_shared.specs.OpenPile.{grid_of_terms, holds_site, AreTerms}
use Rattle.sand_shared.specs.Passes.{SharedView}

-- the table's own word, the number word and a word for each site; and the lattice of the grid
pub record AreWords (key : Terms) (lattice : Grid) (words : SharedView) : Type 0 where
  pub key_is : key ≡ words.terms
  pub lattice_is : lattice ≡ grid_of_terms words.terms
  pub wide : words.table.words ≡ sites (grid_of_terms words.terms) + 2
  pub no_slots : words.table.slots ≡ 0
  pub terms : AreTerms words.terms

-- a seat at this table, without slots
pub record IsSeatAt (words : SharedView) (seat : Seat ℕ View) : Type 0 where
  pub table : seat.table_id ≡ words.table
  pub bare : seat.me.1 ≡ []

-- the same seat, whatever it has now
pub record StaysSeated (old new : Seat ℕ View) : Type 0 where
  pub table : new.table_id ≡ old.table_id
  pub id : new.id ≡ old.id
  pub bare : new.me.1 ≡ []

-- the seat of a whole pass: the whole quota and all sites
pub record HasAll (t : Terms) (v : View) : Type 0 where
  pub quota : t.quota ≤ v.left + length v.receipts
  pub all_sites : (i : ℕ) → i < sites (grid_of_terms t) → holds_site v i ≡ true
