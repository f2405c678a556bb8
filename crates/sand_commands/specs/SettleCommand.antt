-- What `settle` writes.
use Rattle.std.specs.Prelude.{◌≡◌, Bool, true, false, List, ℕ, Ok}
use Rattle.sand_model.specs.Piles.{PileView, height_of}
use Rattle.sand_settle.specs.Settling.{SettledView, IsSettledRecord}
use Rattle.sand_text.specs.Pictures.{pgm_text_of}
use Rattle.sand_text.specs.Reading.{pile_of}
use Rattle.sand_text.specs.Texts.{text_of}
use Rattle.sand_commands.specs.Results.{settle_text_of}
use Rattle.sand_cli.specs.declared.task.Form.{Form}
use Rattle.sand_cli.specs.declared.task.Form.TheVariants.{Graymap, Pile, Text}

-- the text of a pile, or its picture
abbrev pub pile_or_graymap : Bool → PileView → List ℕ
pile_or_graymap false pile = text_of pile
pile_or_graymap true pile = pgm_text_of pile

-- the text of a settled record, or only its pile, as text or as a picture
abbrev pub record_in : Form → SettledView → List ℕ
record_in Text settled = settle_text_of settled
record_in Pile settled = text_of settled.pile
record_in Graymap settled = pgm_text_of settled.pile

-- the settled record of the pile in the input, in this form
pub record IsSettleText (form : Form) (input text : List ℕ) : Type 0 where
  pub pile : PileView
  pub settled : SettledView
  pub read : pile_of input ≡ Ok pile
  pub record_of : IsSettledRecord pile.grid (height_of pile) settled
  pub written : text ≡ record_in form settled
