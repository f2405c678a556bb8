-- The meaning of the text of a pile, a pile and drops, or two piles: what it holds, or its first fault.
use Rattle.std.specs.Prelude.{◌≡◌, ℕ, ◌+◌, ◌*◌, List, [], ◌∷◌, Bool, true, false, ◌==◌, ◌&&◌, nat_lt, nat_le, length, take, drop, sum, position, Option, Some, None, Result, Ok, Err, IsOk, if◌then◌else◌}
use Rattle.sand_model.specs.declared.shape.Edge.{Edge}
use Rattle.sand_model.specs.declared.faults.ShapeFault.{ShapeFault}
use Rattle.sand_model.specs.declared.faults.ShapeFault.TheVariants as shape_faults
use Rattle.sand_model.specs.Grid.{Grid, grid_with_edge, is_side, sites}
use Rattle.sand_model.specs.Piles.{PileView, most_grains}
use Rattle.sand_text.specs.declared.fault.TextFault.{TextFault}
use Rattle.sand_text.specs.declared.fault.TextFault.TheVariants.{Text, TooLarge, Side, Narrow, Length, TooManyGrains, NoSite}
use Rattle.sand_text.specs.declared.fault.ReadFault.{ReadFault}
use Rattle.sand_text.specs.declared.fault.ReadFault.TheVariants as faults
use Rattle.sand_text.specs.declared.tokens.Token.{Token}
use Rattle.sand_text.specs.Bytes.{has_large}
use Rattle.sand_text.specs.Tokens.{tokens, first_strange, first_large, edge_behind, numbers}

infixl 10 ◌>>=◌
abbrev pub ◌>>=◌ : {A B : Type 0} → Result A TextFault → (A → Result B TextFault) → Result B TextFault
(Ok x) >>= f = f x
(Err e) >>= f = Err e

-- the fault at this offset, if there is one, before any other
abbrev pub unless_at : {A : Type 0} → Option ℕ → (ℕ → TextFault) → Result A TextFault → Result A TextFault
unless_at None fault read = read
unless_at (Some at) fault read = Err (fault at)

-- the tokens of a text without a strange byte or a number over the limit; letters are allowed after `spared` numbers
abbrev pub plain_tokens : List ℕ → List ℕ → Result (List Token) TextFault
plain_tokens spared text =
    let ws = tokens text in
    unless_at (first_strange spared 0 ws) Text (unless_at (first_large ws) TooLarge (Ok ws))

abbrev pub of_shape : ShapeFault → TextFault
of_shape shape_faults.Side = Side
of_shape shape_faults.Narrow = Narrow

-- the number of heights is right: `expected`, or more if the pile is not the last in its text
abbrev pub is_count : Bool → ℕ → ℕ → Bool
is_count last count expected = if last then count == expected else nat_le expected count

-- the pile on this grid whose heights are the first numbers, and the numbers after them
abbrev pub filled : Bool → Result Grid ShapeFault → List ℕ → Result (PileView × List ℕ) TextFault
filled last (Err fault) ns = Err (of_shape fault)
filled last (Ok g) ns = if is_count last (length ns) (sites g)
    then (if nat_lt most_grains (sum (take (sites g) ns))
    then Err TooManyGrains
    else Ok (record { grid = g; heights = take (sites g) ns }, drop (sites g) ns))
    else Err Length

-- the pile with this edge at the front of the numbers, and the numbers after it; `end` is the length of the text
abbrev pub pile_at : Edge → Bool → ℕ → List ℕ → Result (PileView × List ℕ) TextFault
pile_at edge last end [] = Err (Text end)
pile_at edge last end (w ∷ []) = Err (Text end)
pile_at edge last end (w ∷ h ∷ ns) = filled last (grid_with_edge w h edge) ns

-- the pile at the front of a text, and the numbers after it; a letter is allowed after the second number
unfoldable pub front_of : Bool → List ℕ → Result (PileView × List ℕ) TextFault
front_of last text = do
  ws ← plain_tokens (2 ∷ []) text
  pile_at (edge_behind 2 0 ws) last (length text) (numbers ws)

-- the pile in a text
unfoldable pub pile_of : List ℕ → Result PileView TextFault
pile_of text = do
  front ← front_of true text
  Ok front.0

-- these numbers, if all are sites of the grid; else the index of the first that is not
abbrev pub sites_among : Grid → List ℕ → Result (List ℕ) TextFault
sites_among g ns = unless_at (position (nat_le (sites g)) ns) NoSite (Ok ns)

-- the pile in a text, and the sites after it
unfoldable pub drops_of : List ℕ → Result (PileView × List ℕ) TextFault
drops_of text = do
  front ← front_of false text
  drops ← sites_among front.0.grid front.1
  Ok (front.0, drops)

-- after how many numbers the second pile may have its letter: the first pile and two more sides. It may have none if
-- the first sides are out of range or the text has a number over the limit.
abbrev pub second_letter : Bool → List ℕ → List ℕ
second_letter true ns = []
second_letter false [] = []
second_letter false (w ∷ []) = []
second_letter false (w ∷ h ∷ ns) = if is_side w && is_side h then (w * h + 4) ∷ [] else []

-- after how many numbers the letters of two piles are allowed
abbrev pub two_letters : List ℕ → List ℕ
two_letters text = 2 ∷ second_letter (has_large text) (numbers (tokens text))

-- the two piles in a text, one after the other
unfoldable pub two_of : List ℕ → Result (PileView × PileView) TextFault
two_of text = do
  ws ← plain_tokens (two_letters text) text
  first ← pile_at (edge_behind 2 0 ws) false (length text) (numbers ws)
  second ← pile_at (edge_behind (sites first.0.grid + 4) 0 ws) true (length text) first.1
  Ok (first.0, second.0)

-- A reader returns the meaning of the text. It can run out of memory only if the text has no fault.
abbrev pub Fails : {A : Type 0} → ReadFault → Result A TextFault → Type 0
Fails faults.Memory read = IsOk read
Fails (faults.Text fault) read = read ≡ Err fault

-- the same for a value with a view
abbrev pub ReadsAs : {V A : Type 0} → (V → A) → Result V ReadFault → Result A TextFault → Type 0
ReadsAs view (Ok value) read = read ≡ Ok (view value)
ReadsAs view (Err fault) read = Fails fault read

abbrev pub Reads : Result PileView ReadFault → Result PileView TextFault → Type 0
Reads result read = ReadsAs (λ pile. pile) result read

-- the heights of the pile on this grid at the front of a text
abbrev pub heights_on : Grid → List ℕ → List ℕ
heights_on g text = take (sites g) (drop 2 (numbers (tokens text)))

-- the numbers after the pile on this grid at the front of a text
abbrev pub behind_heights : Grid → List ℕ → List ℕ
behind_heights g text = drop (sites g) (drop 2 (numbers (tokens text)))

-- the heights of the pile on the second grid, after the pile on the first
abbrev pub heights_behind : Grid → Grid → List ℕ → List ℕ
heights_behind g h text = take (sites h) (drop 2 (behind_heights g text))

-- after how many of its own numbers the second pile may have its letter
abbrev pub second_spared : List ℕ → List ℕ
second_spared text = if has_large text then [] else 2 ∷ []
