-- What the pass over a text's tokens knows at each token.
use Rattle.std.specs.Prelude.{◌≡◌, ℕ, ◌+◌, ◌-◌, ◌*◌, ◌^◌, ◌<◌, ◌≤◌, ◌⊎◌, List, [], ◌∷◌, Bool, true, false, ◌==◌, All, IsTrue, nat_lt, nat_le, min, length, take, drop, sum, position, slice_index, Option, Some, None, Ok, if◌then◌else◌}
use Rattle.std.specs.Option.{option_or}
use Rattle.sand_model.specs.declared.shape.Edge.{Edge}
use Rattle.sand_model.specs.declared.shape.Edge.TheVariants.{Open, Cylinder}
use Rattle.sand_model.specs.Grid.{Grid, is_side, sites}
use Rattle.sand_model.specs.Piles.{PileView, most_grains, most_grains_on}
use Rattle.sand_text.specs.declared.fault.TextFault.{TextFault}
use Rattle.sand_text.specs.declared.fault.TextFault.TheVariants.{Text}
use Rattle.sand_text.specs.declared.survey.Survey.{Survey}
use Rattle.sand_text.specs.declared.tokens.Token.{Token}
use Rattle.sand_text.specs.declared.tokens.Token.TheVariants.{Number, Letter, Strange}
use Rattle.sand_text.specs.Bytes.{capped}
use Rattle.sand_text.specs.Tokens.{first_strange, first_large, edge_behind, numbers}
use Rattle.sand_text.specs.Reading.{pile_at}

-- the letters still allowed: one after the second number, until it is found, and those after more numbers
abbrev pub still_spared : Edge → List ℕ → List ℕ
still_spared Open more = 2 ∷ more
still_spared Cylinder more = more

-- a cylinder if its letter was found, else what the tokens left say
abbrev pub edge_or : Edge → Edge → Edge
edge_or Open later = later
edge_or Cylinder later = Cylinder

-- the number of sites that the sides make, or the largest value of its type
abbrev pub sites_of : Survey → ℕ
sites_of s = min (s.width * s.height) (2 ^ 64 - 1)

-- the sum of the heights, including the number at this index after the sides
abbrev pub grains_with : Survey → ℕ → ℕ → ℕ
grains_with s index value = if nat_lt index (sites_of s) then capped (s.grains + value) else s.grains

-- the index of this number among the drops, if it is a drop outside the grid
abbrev pub if_no_site : Survey → ℕ → ℕ → Option ℕ
if_no_site s index value =
    if nat_lt index (sites_of s) then None else (if nat_le (sites_of s) value then Some (index - sites_of s) else None)

-- the survey t is s after one more number, whose token starts at `start`
pub record IsNoted (s t : Survey) (start value : ℕ) : Type 0 where
  pub count : t.count ≡ s.count + 1
  pub width : t.width ≡ (if s.count == 0 then value else s.width)
  pub height : t.height ≡ (if s.count == 1 then value else s.height)
  pub edge : t.edge ≡ s.edge
  pub grains : t.grains ≡ (if nat_lt s.count 2 then s.grains else grains_with s (s.count - 2) value)
  pub no_site : t.no_site
      ≡ (if nat_lt s.count 2 then s.no_site else option_or s.no_site (if_no_site s (s.count - 2) value))
  pub large : t.large ≡ option_or s.large (if nat_lt most_grains value then Some start else None)

-- the numbers after the sides, among the first `count`
abbrev pub noted : ℕ → List Token → List ℕ
noted count ws = take (count - 2) (drop 2 (numbers ws))

-- the tokens in `rest` say of strange bytes and of letters what all tokens of ws say; letters are allowed after the
-- second number and after further counts of numbers
pub record AgreeOnLetters (ws rest : List Token) (s : Survey) : Type 0 where
  pub plain : (more : List ℕ) → All (λ k. s.count < k) more
      → first_strange (still_spared s.edge more) s.count rest ≡ first_strange (2 ∷ more) 0 ws
  pub bare : s.edge ≡ Open → first_strange [] s.count rest ≡ first_strange [] 0 ws
  pub edge : edge_or s.edge (edge_behind 2 s.count rest) ≡ edge_behind 2 0 ws
  pub later_edge : (k : ℕ) → s.count < k → edge_behind k s.count rest ≡ edge_behind k 0 ws

-- the survey has counted the numbers before `rest`, and has the first two
pub record HasCounted (ws rest : List Token) (s : Survey) : Type 0 where
  pub within : s.count ≤ length (numbers ws)
  pub left : drop s.count (numbers ws) ≡ numbers rest
  pub width : 0 < s.count → s.width ≡ slice_index (numbers ws) 0
  pub height : 1 < s.count → s.height ≡ slice_index (numbers ws) 1

-- the survey of the tokens of ws before `rest`, none of them strange
pub record IsSurvey (ws rest : List Token) (s : Survey) : Type 0 where
  pub letters : AgreeOnLetters ws rest s
  pub counted : HasCounted ws rest s
  pub large : option_or s.large (first_large rest) ≡ first_large ws
  pub grains : s.grains ≡ capped (sum (take (sites_of s) (noted s.count ws)))
  pub no_site : s.no_site ≡ position (nat_le (sites_of s)) (drop (sites_of s) (noted s.count ws))

-- the edge after one more token
abbrev pub edge_with : Edge → Token → Edge
edge_with e (Number at value) = e
edge_with e (Letter at) = Cylinder
edge_with e (Strange at) = e

-- the fault is the first strange byte of ws; letters are allowed after the second number and after further counts of
-- numbers
pub record IsStrangeAt (ws : List Token) (s : Survey) (fault : TextFault) : Type 0 where
  pub at : ℕ
  pub is : fault ≡ Text at
  pub strange : (more : List ℕ) → All (λ k. s.count < k) more → first_strange (2 ∷ more) 0 ws ≡ Some at
  pub bare : s.edge ≡ Open → first_strange [] 0 ws ≡ Some at

-- the sides are in range, and followed by a height for each site
pub record IsFull (s : Survey) : Type 0 where
  pub width : IsTrue (is_side s.width)
  pub height : IsTrue (is_side s.height)
  pub count : s.count ≡ s.width * s.height + 2

-- the survey of a pile ends with its last height or with the text; that of the last pile ends with the text
abbrev pub IsEnd : Bool → List Token → Survey → Type 0
IsEnd true rest s = rest ≡ []
IsEnd false rest s = (rest ≡ []) ⊎ IsFull s

-- the pile on a grid at the front of these numbers, and the numbers after it
abbrev pub pile_among : Grid → List ℕ → PileView × List ℕ
pile_among g ns = (record { grid = g; heights = take (sites g) (drop 2 ns) }, drop (sites g) (drop 2 ns))

-- the pile at the front of ws is on this grid, and has the grains that the survey counted
pub record IsShaped (last : Bool) (end : ℕ) (ws : List Token) (s : Survey) (g : Grid) : Type 0 where
  pub read : pile_at (edge_behind 2 0 ws) last end (numbers ws) ≡ Ok (pile_among g (numbers ws))
  pub width : IsTrue (is_side s.width)
  pub height : IsTrue (is_side s.height)
  pub area : s.width * s.height ≡ sites g
  pub room : sites_of s ≡ sites g
  pub enough : 2 + sites g ≤ length (numbers ws)
  pub grains : s.grains ≡ sum (take (sites g) (drop 2 (numbers ws)))
  pub limit : s.grains ≤ most_grains_on g

-- no number follows the last height
abbrev pub IsWithinPile : Survey → Type 0
IsWithinPile s = 1 < s.count → IsTrue (is_side s.width) → IsTrue (is_side s.height) → s.count ≤ s.width * s.height + 2

-- the survey of the first pile of a text alone
pub record IsFront (ws rest : List Token) (s : Survey) : Type 0 where
  pub underway : IsSurvey ws rest s
  pub end : IsEnd false rest s
  pub within : IsWithinPile s

-- the offset of a letter that only the first pile may have
abbrev pub barred_at : Bool → Token → Option ℕ
barred_at true (Letter at) = Some at
barred_at over _ = None

-- the fault is the first strange byte of ws; letters are allowed after these counts of numbers
abbrev pub IsFirstStrange : List ℕ → List Token → TextFault → Type 0
IsFirstStrange spared ws fault = (at : ℕ) × (fault ≡ Text at) × (first_strange spared 0 ws ≡ Some at)
