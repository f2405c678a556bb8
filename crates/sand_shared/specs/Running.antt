-- The rule of the table of words, and what a step on it tells the pass that takes it.
-- Word 0 is the table's own, word 1 is the number word, and word i + 2 is the height of the site i.
use Rattle.std.specs.Prelude.{ℕ, ◌≡◌, ◌+◌, ◌<◌, List, [], ◌∷◌, length, slice_index}
use Rattle.atomic_table.specs.Table.{State}
use Rattle.sand_model.specs.Grid.{sites}
use Rattle.sand_shared.specs.declared.view.View.{View}
use Rattle.sand_shared.specs.declared.view.Terms.{Terms}
use Rattle.sand_shared.specs.OpenPile.{OpenPile, grid_of_terms, pass_at, AreTerms, IsLawful}
use Rattle.sand_shared.specs.Events.{Event, begin, draw, place, count, split, join, look, unload, deliver, unopened, AllHappen, after_all}

-- the words and the views show this open pile
pub record Shows (t : Terms) (p : OpenPile) (s : State ℕ View) : Type 0 where
  pub wide : length s.words ≡ sites (grid_of_terms t) + 2
  pub number : slice_index s.words 1 ≡ length p.drawn
  pub heights : (i : ℕ) → i < sites (grid_of_terms t) → slice_index s.words (i + 2) ≡ p.height i
  pub passes : s.views ≡ p.passes

-- the rule: events have led from the first state to what the words and the views show
pub record IsRunning (t : Terms) (s : State ℕ View) : Type 0 where
  pub terms : AreTerms t
  pub events : List Event
  pub happened : AllHappen t (unopened t) (begin ∷ events)
  pub shown : Shows t (after_all t (unopened t) (begin ∷ events)) s

-- the value that the step of an event finds in its word
abbrev pub found : OpenPile → Event → ℕ
found p begin = 0
found p (draw a i) = length p.drawn
found p (place a i) = p.height i
found p (count a) = length p.drawn
found p (split a q n) = 0
found p (join a b) = 0
found p (look a i) = p.height i
found p (unload a i k) = p.height i
found p (deliver a i k) = p.height i

-- the pass a has v on some lawful open pile
pub record Stands (t : Terms) (a : ℕ) (v : View) : Type 0 where
  pub terms : AreTerms t
  pub pile : OpenPile
  pub lawful : IsLawful t pile
  pub there : a < length pile.passes
  pub pass : pass_at pile a ≡ v

-- n is the value that the first of the events found in its word
abbrev pub Finds : OpenPile → List Event → ℕ → Type 0
Finds p [] n = Unit {0}
Finds p (e ∷ es) n = n ≡ found p e

-- the pass a had v and took these events in one step: on a lawful open pile they could happen one after another, the
-- step found n, and the pass then has w; a load that is no event has none
pub record Happened (t : Terms) (a : ℕ) (es : List Event) (v : View) (n : ℕ) (w : View) : Type 0 where
  pub before : Stands t a v
  pub may : AllHappen t before.pile es
  pub number : Finds before.pile es n
  pub pass_after : pass_at (after_all t before.pile es) a ≡ w
