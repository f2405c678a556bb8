-- What `drops` writes.
use Rattle.std.specs.Prelude.{ℕ, ◌≡◌, ◌+◌, ◌<◌, Bool, true, false, if◌then◌else◌, List, [], ◌∷◌, ◌++◌, length, drop, sum, codes, Option, Some, None, Result, Ok}
use Rattle.sand_model.specs.Piles.{PileView, most_grains_on}
use Rattle.sand_settle.specs.Avalanches.{Avalanche}
use Rattle.sand_settle.specs.Settling.{SettledView}
use Rattle.sand_settle.specs.Drops.{DrivenView, IsAfter, AreAvalanches}
use Rattle.sand_model.specs.Grid.{sites}
use Rattle.sand_streams.specs.Streams.{stream_sites}
use Rattle.sand_text.specs.declared.fault.TextFault.{TextFault}
use Rattle.sand_text.specs.Reading.{pile_of, drops_of, ◌>>=◌}
use Rattle.sand_cli.specs.declared.task.Draw.{Draw}
use Rattle.sand_cli.specs.declared.task.Part.{Part}
use Rattle.sand_cli.specs.declared.task.Part.TheVariants as parts
use Rattle.sand_text.specs.Tables.{table_text_of}
use Rattle.sand_text.specs.Texts.{sum_line, text_of}

-- the sites of a draw, on a grid of `sites` sites: the start of the stream, without the skipped sites
abbrev pub drawn_sites : ℕ → Draw → List ℕ
drawn_sites sites draw = drop draw.from (stream_sites sites draw.seed draw.stream (draw.from + draw.count))

-- a pile, and the sites drawn on it
abbrev pub with_draw : Draw → PileView → Result (PileView × List ℕ) TextFault
with_draw draw pile = Ok (pile, drawn_sites (sites pile.grid) draw)

-- the pile in the input and the sites of the drops: the drawn ones, or those listed after the pile
abbrev pub drops_for : Option Draw → List ℕ → Result (PileView × List ℕ) TextFault
drops_for None input = drops_of input
drops_for (Some draw) input = pile_of input >>= with_draw draw

abbrev pub first_number : Option Draw → ℕ
first_number None = 0
first_number (Some draw) = draw.from

-- avalanches with the numbers of their drops, from n on
abbrev pub numbered : ℕ → List Avalanche → List (ℕ × Avalanche)
numbered n [] = []
numbered n (a ∷ others) = (n, a) ∷ numbered (n + 1) others

-- the drops at these sites lead from v to w, and each row has the number of its drop, counted from n, and its avalanche
pub record AreRows (n : ℕ) (v : DrivenView) (sites : List ℕ) (rows : List (ℕ × Avalanche)) (w : DrivenView) : Type 0 where
  pub avalanches : List Avalanche
  pub dropped : AreAvalanches v sites avalanches w
  pub rows_are : rows ≡ numbered n avalanches

-- the record of the drops at these sites, which lead from v to w: a row each, or nothing if only the pile is wanted
abbrev pub AreNoted : Bool → DrivenView → List ℕ → List (ℕ × Avalanche) → DrivenView → Type 0
AreNoted alone v sites noted w = (rows : List (ℕ × Avalanche)) × AreRows v.number v sites rows w
    × (noted ≡ (if alone then [] else rows))

abbrev pub is_pile : Part → Bool
is_pile parts.Pile = true
is_pile part = false

-- the table of the drops, the final pile, and the sums since the start
abbrev pub drops_text_of : List (ℕ × Avalanche) → SettledView → List ℕ
drops_text_of rows last = table_text_of rows ++ text_of last.pile
    ++ sum_line (codes "lost ") last.lost ++ sum_line (codes "topplings ") last.topplings

-- the wanted part of it
abbrev pub drops_in : Part → List (ℕ × Avalanche) → SettledView → List ℕ
drops_in parts.All rows last = drops_text_of rows last
drops_in parts.Table rows last = table_text_of rows
drops_in parts.Pile rows last = text_of last.pile

-- the wanted part of the text of the drops on the settled pile in the input
pub record IsDropsText (drawn : Option Draw) (part : Part) (input text : List ℕ) : Type 0 where
  pub pile : PileView
  pub sites : List ℕ
  pub first : DrivenView
  pub last : DrivenView
  pub rows : List (ℕ × Avalanche)
  pub read : drops_for drawn input ≡ Ok (pile, sites)
  pub start : IsAfter pile [] first
  pub dropped : AreRows (first_number drawn) first sites rows last
  pub end : IsAfter pile sites last
  pub written : text ≡ drops_in part rows last.settled

-- the pile and the drops exceed the grain limit of the grid
pub record IsOverfull (drawn : Option Draw) (input : List ℕ) : Type 0 where
  pub pile : PileView
  pub sites : List ℕ
  pub read : drops_for drawn input ≡ Ok (pile, sites)
  pub over : most_grains_on pile.grid < sum pile.heights + length sites
