-- What `burn`, `identity`, `add`, `inverse`, `multiple` and `recurrent` write, and why they reject a pile.
use Rattle.std.specs.Prelude.{ℕ, ◌≡◌, ◌≢◌, ◌⊎◌, Bool, true, false, List, length, Ok}
use Rattle.sand_model.specs.declared.shape.Edge.{Edge}
use Rattle.sand_model.specs.declared.shape.Edge.TheVariants.{Open, Cylinder}
use Rattle.sand_model.specs.Grid.{Grid, grid_with_edge, sites}
use Rattle.sand_model.specs.Integers.{whole}
use Rattle.sand_model.specs.Piles.{PileView, height_of}
use Rattle.sand_model.specs.Sand.{IsStable}
use Rattle.sand_group.specs.declared.burning.Burned.{Burned}
use Rattle.sand_group.specs.declared.faults.GroupFault.{GroupFault}
use Rattle.sand_group.specs.Burned.{IsBurned}
use Rattle.sand_group.specs.Faults.{IsRefusal}
use Rattle.sand_group.specs.Group.{IsSum, IsMultiple, IsIdentity, IsInverse, Represents}
use Rattle.sand_group.specs.Recurrence.{IsRecurrent}
use Rattle.sand_text.specs.Reading.{pile_of, two_of}
use Rattle.sand_commands.specs.Results.{burn_text_of}
use Rattle.sand_commands.specs.SettleCommand.{pile_or_graymap}

-- ---- the texts

-- the result of the burning test on the pile in the input, which is stable
pub record IsBurnText (input text : List ℕ) : Type 0 where
  pub pile : PileView
  pub burned : Burned
  pub read : pile_of input ≡ Ok pile
  pub stable : IsStable pile.grid (height_of pile)
  pub found : IsBurned pile.grid (height_of pile) burned
  pub written : text ≡ burn_text_of pile.grid burned

abbrev pub edge_of : Bool → Edge
edge_of false = Open
edge_of true = Cylinder

-- a pile on this grid, with heights of this kind, as text or as a picture
pub record IsPileText (g : Grid) (IsWanted : (ℕ → ℕ) → Type 0) (pgm : Bool) (text : List ℕ) : Type 0 where
  pub pile : PileView
  pub grid : pile.grid ≡ g
  pub len : length pile.heights ≡ sites g
  pub wanted : IsWanted (height_of pile)
  pub written : text ≡ pile_or_graymap pgm pile

-- the identity of the group on a grid with these sides
pub record IsIdentityText (width height : ℕ) (cylinder pgm : Bool) (text : List ℕ) : Type 0 where
  pub grid : Grid
  pub made : grid_with_edge width height (edge_of cylinder) ≡ Ok grid
  pub answer : IsPileText grid (IsIdentity grid) pgm text

-- the sum of the two piles in the input, which are recurrent and of one shape
pub record IsSumText (pgm : Bool) (input text : List ℕ) : Type 0 where
  pub first : PileView
  pub second : PileView
  pub read : two_of input ≡ Ok (first, second)
  pub first_recurrent : IsRecurrent first.grid (height_of first)
  pub second_recurrent : IsRecurrent second.grid (height_of second)
  pub one_shape : first.grid ≡ second.grid
  pub answer : IsPileText first.grid (IsSum first.grid (height_of first) (height_of second)) pgm text

-- the inverse of the pile in the input, which is recurrent
pub record IsInverseText (pgm : Bool) (input text : List ℕ) : Type 0 where
  pub pile : PileView
  pub read : pile_of input ≡ Ok pile
  pub recurrent : IsRecurrent pile.grid (height_of pile)
  pub answer : IsPileText pile.grid (IsInverse pile.grid (height_of pile)) pgm text

-- the n-fold sum of the pile in the input, which is recurrent
pub record IsMultipleText (n : ℕ) (pgm : Bool) (input text : List ℕ) : Type 0 where
  pub pile : PileView
  pub read : pile_of input ≡ Ok pile
  pub recurrent : IsRecurrent pile.grid (height_of pile)
  pub answer : IsPileText pile.grid (IsMultiple pile.grid n (height_of pile)) pgm text

-- the recurrent pile equivalent to the pile in the input
pub record IsRecurrentText (pgm : Bool) (input text : List ℕ) : Type 0 where
  pub pile : PileView
  pub read : pile_of input ≡ Ok pile
  pub answer : IsPileText pile.grid (Represents pile.grid (whole (height_of pile))) pgm text

-- ---- the refusals

-- the pile in the input is refused
pub record IsUnfitPile (input : List ℕ) (fault : GroupFault) : Type 0 where
  pub pile : PileView
  pub read : pile_of input ≡ Ok pile
  pub unfit : IsRefusal pile fault

-- the first of the two piles in the input is refused, or it is recurrent and the second is refused
pub record IsUnfitPair (input : List ℕ) (fault : GroupFault) : Type 0 where
  pub first : PileView
  pub second : PileView
  pub read : two_of input ≡ Ok (first, second)
  pub unfit : IsRefusal first fault ⊎ (IsRecurrent first.grid (height_of first) × IsRefusal second fault)

-- the two piles in the input are recurrent, and of different shapes
pub record IsMismatch (input : List ℕ) : Type 0 where
  pub first : PileView
  pub second : PileView
  pub read : two_of input ≡ Ok (first, second)
  pub first_recurrent : IsRecurrent first.grid (height_of first)
  pub second_recurrent : IsRecurrent second.grid (height_of second)
  pub differ : first.grid ≢ second.grid
