-- What contracts see of a pass that C holds: the shared pile, and the pass.
use Rattle.std.specs.Prelude.{ℕ, ◌≡◌, []}
use Rattle.sand_model.specs.Grid.{Grid, sites}
use Rattle.sand_model.specs.Piles.{PileView}
use Rattle.sand_shared.specs.OpenPile.{grid_of_terms}
use Rattle.sand_shared.specs.Events.{zeros}
use Rattle.sand_shared.specs.Passes.{SharedView, PassView, IsPassOf}

-- a shared pile, and a pass of it
pub record OwnedPassView : Type 0 where
  pub pile : SharedView
  pub pass : PassView

-- the pass is one of the pile, and the counters and the shape are for its grid
pub record IsOwned (v : OwnedPassView) (counted shaped : Grid) : Type 0 where
  pub of_pile : IsPassOf v.pile v.pass
  pub counts : counted ≡ grid_of_terms v.pile.terms
  pub shape : shaped ≡ grid_of_terms v.pile.terms

-- the first pass of a new pile, with the whole quota and all rows
pub record IsFirst (start : PileView) (quota : ℕ) (v : OwnedPassView) : Type 0 where
  pub terms : v.pile.terms ≡ record { start = start; quota = quota }
  pub pass : v.pass ≡ record {
    table = v.pile.table;
    grid = start.grid;
    left = quota;
    seen = 0;
    receipts = [];
    rows = record { first = 0; end = start.grid.height };
    counts = zeros (sites start.grid);
  }
