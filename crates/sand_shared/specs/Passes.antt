-- What contracts see of a shared pile and of a pass.
use Rattle.std.specs.Prelude.{ℕ, ◌≡◌, ◌+◌, ◌-◌, ◌*◌, ◌<◌, ◌≤◌, max, if◌then◌else◌, List, [], ◌∷◌, ◌++◌, All, length}
use Rattle.atomic_table.specs.Seated.{TableId}
use Rattle.sand_model.specs.Grid.{Grid, IsGrid}
use Rattle.sand_shared.specs.declared.view.Receipt.{Receipt}
use Rattle.sand_shared.specs.declared.view.View.{View}
use Rattle.sand_shared.specs.declared.view.Terms.{Terms}
use Rattle.sand_shared.specs.declared.rows.Rows.{Rows}
use Rattle.sand_shared.specs.OpenPile.{grid_of_terms, numbered}
use Rattle.sand_shared.specs.Rows.{count_of, rows_follow, rows_together, AreRowsOf}

-- a shared pile: its table, and what it began with
pub record SharedView : Type 0 where
  pub table : TableId
  pub terms : Terms

-- a pass: its table, its grid, and what it has; the counts are by site, from the first of its rows on
pub record PassView : Type 0 where
  pub table : TableId
  pub grid : Grid
  pub left : ℕ
  pub seen : ℕ
  pub receipts : List Receipt
  pub rows : Rows
  pub counts : List ℕ

-- the pass belongs to this pile
pub record IsPassOf (pile : SharedView) (pass : PassView) : Type 0 where
  pub table : pass.table ≡ pile.table
  pub grid : pass.grid ≡ grid_of_terms pile.terms

-- no two receipts have the same number
abbrev pub EachOnce : List Receipt → Type 0
EachOnce receipts = (n : ℕ) → numbered receipts n ≤ 1

abbrev pub AllBelow : ℕ → List Receipt → Type 0
AllBelow n receipts = All (λ r. r.number < n) receipts

-- what a pass is to the rule between calls: it has nothing in hand
abbrev pub at_rest : PassView → View
at_rest p = record {
  left = p.left;
  seen = p.seen;
  receipts = p.receipts;
  hand = [];
  base = p.rows.first * p.grid.width;
  counts = p.counts;
  spot = 0;
  least = 0;
}

-- what a pass says of itself
pub record IsPass (p : PassView) : Type 0 where
  pub once : EachOnce p.receipts
  pub below : AllBelow p.seen p.receipts
  pub grid : IsGrid p.grid
  pub rows : AreRowsOf p.grid p.rows
  pub len : length p.counts ≡ count_of p.rows * p.grid.width

-- the list has the receipts of the pass, and has room for those of the drops that it has left
pub record IsListed (p : PassView) (receipts : List Receipt) (room : ℕ) : Type 0 where
  pub listed : receipts ≡ p.receipts
  pub fit : length receipts + p.left ≤ room

-- Splitting and joining

-- how many of its sites a pass keeps if it gives away its last k rows
abbrev pub sites_kept : PassView → ℕ → ℕ
sites_kept p k = length p.counts - k * p.grid.width

-- two passes as one
abbrev pub together : PassView → PassView → PassView
together p q = record p {
  left = p.left + q.left;
  seen = max p.seen q.seen;
  receipts = p.receipts ++ q.receipts;
  rows = rows_together p.rows q.rows;
  counts = if rows_follow p.rows q.rows then p.counts ++ q.counts else q.counts ++ p.counts;
}

-- a pass and the passes of a list as one, joined in order
abbrev pub together_all : PassView → List PassView → PassView
together_all p [] = p
together_all p (q ∷ qs) = together_all (together p q) qs

-- the whole quota, unspent or as receipts, and all rows
pub record IsWhole (terms : Terms) (p : PassView) : Type 0 where
  pub quota : p.left + length p.receipts ≡ terms.quota
  pub rows : p.rows ≡ record { first = 0; end = (grid_of_terms terms).height }
