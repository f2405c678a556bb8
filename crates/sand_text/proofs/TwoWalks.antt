-- The pass over the tokens of two piles.
use Rattle.sand_text.proofs.Common.{◌≡◌, ℕ, ◌+◌, ◌<◌, ◌≤◌, List, [], ◌∷◌, Bool, true, arith, Some, None, slice_index, if◌then◌else◌, and_parts, cases_lt, Edge, Open, TextFault, Text, Survey, Token, numbers, second_letter, IsSurvey, IsStrangeAt, IsFull, IsWithinPile, IsFirstStrange, barred_at, edge_with, usual}
use Rattle.std.proofs.Common.{All}
use Rattle.sand_text.specs.Tokens.{first_strange}

-- ---- the first pile

-- one more token of a pile that is not full
pub one_further : (ws left rest : List Token) (s t : Survey) → IsSurvey ws left s
    → IsSurvey ws rest t → IsWithinPile s → (IsFull s → ⊥) → t.count ≤ s.count + 1
    → IsWithinPile t
one_further ws left rest s t before after within is_open few some width height = grind (arith, usual, cases_lt)

by_sides : (b : Bool) (n k : ℕ) → (b ≡ true → n < k) → All (λ j. n < j) (if b then k ∷ [] else [])
by_sides b n k h = grind (arith, usual)

-- the second letter comes after the numbers of the first pile
letter_later : (over : Bool) (ns : List ℕ) (s : Survey)
    → (0 < s.count → s.width ≡ slice_index ns 0)
    → (1 < s.count → s.height ≡ slice_index ns 1) → IsWithinPile s
    → All (λ k. s.count < k) (second_letter over ns)
letter_later over ns s width height within = grind (arith, usual, by_sides, cases_lt, and_parts)

pub later_letter : (over : Bool) (ws rest : List Token) (s : Survey) → IsSurvey ws rest s → IsWithinPile s
    → All (λ k. s.count < k) (second_letter over (numbers ws))
later_letter over ws rest s h within = letter_later over (numbers ws) s h.counted.width h.counted.height within

pub strange_in_first : (over : Bool) (ws rest : List Token) (s : Survey) (e : TextFault)
    → IsSurvey ws rest s → IsWithinPile s → IsStrangeAt ws s e
    → IsFirstStrange (2 ∷ second_letter over (numbers ws)) ws e
strange_in_first over ws rest s e h within strange =
    (strange.at, strange.is, strange.strange (second_letter over (numbers ws)) (later_letter over ws rest s h within))

-- ---- the second pile, in a text that has a number over the limit or not

pub barred : (over : Bool) (ws rest : List Token) (s : Survey) (token : Token) (at : ℕ)
    → IsSurvey ws (token ∷ rest) s → (over ≡ true → s.edge ≡ Open) → barred_at over token ≡ Some at
    → IsFirstStrange (if over then [] else 2 ∷ []) ws (Text at)
unfolding first_strange
barred over ws rest s token at h is_open is = grind (arith, usual)

pub strange_in_second : (over : Bool) (ws : List Token) (s : Survey) (e : TextFault)
    → (over ≡ true → s.edge ≡ Open) → IsStrangeAt ws s e
    → IsFirstStrange (if over then [] else 2 ∷ []) ws e
strange_in_second over ws s e is_open strange = grind (arith, usual)

pub plain_second : (over : Bool) (ws : List Token) (s : Survey) → IsSurvey ws [] s → (over ≡ true → s.edge ≡ Open)
    → first_strange (if over then [] else 2 ∷ []) 0 ws ≡ None
unfolding first_strange
plain_second over ws s h is_open = grind (arith, usual)

-- with a number over the limit, a token that is not barred leaves the edge open
pub still_open : (over : Bool) (token : Token) (e f : Edge)
    → barred_at over token ≡ None → over ≡ true → e ≡ Open → f ≡ edge_with e token
    → f ≡ Open
still_open over token e f none is is_open with = grind (arith, usual)
