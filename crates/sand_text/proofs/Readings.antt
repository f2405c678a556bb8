-- What the survey of all tokens says of a text.
use Rattle.sand_text.proofs.Common.{◌≡◌, ℕ, ◌-◌, List, [], ◌∷◌, Bool, false, length, take, drop, refl, sym, ◌∙◌, arith, length-drop, Option, None, nat_le, position, Ok, Err, length-take-le, take_all, option_or, Grid, sites, TextFault, TooLarge, Survey, Token, tokens, numbers, plain_tokens, unless_at, IsSurvey, IsShaped, IsStrangeAt, sites_of, usual}
use Rattle.sand_text.specs.Tokens.{first_strange, first_large}
use Rattle.sand_text.proofs.Shapes.{count_at_end}

-- ---- the tokens

or_none : (a : Option ℕ) → option_or a None ≡ a
or_none a = grind (arith, usual)

-- no token is strange
none_strange : (ws : List Token) (s : Survey) → IsSurvey ws [] s → first_strange (2 ∷ []) 0 ws ≡ None
unfolding first_strange
none_strange ws s h = sym (h.letters.plain [] (λ k d lt. absurd (omega arith)))

pub large_is : (ws : List Token) (s : Survey) → IsSurvey ws [] s → first_large ws ≡ s.large
unfolding first_large
large_is ws s h = sym h.large ∙ or_none s.large

pub strange_text : (text : List ℕ) (s : Survey) (e : TextFault) → IsStrangeAt (tokens text) s e
    → plain_tokens (2 ∷ []) text ≡ Err e
strange_text text s e h = let first = h.strange [] (λ k d lt. absurd (omega arith)) in rw (first, h.is) refl

-- without a strange byte, the tokens are plain if no number is over the limit
pub plain_is : (text : List ℕ) (s : Survey) → IsSurvey (tokens text) [] s
    → plain_tokens (2 ∷ []) text ≡ unless_at s.large TooLarge (Ok (tokens text))
plain_is text s h = rw (none_strange (tokens text) s h, large_is (tokens text) s h) refl

-- ---- the pile at the front, and the drops

-- a pile has as many heights as sites
pub one_each : (last : Bool) (end : ℕ) (ws : List Token) (s : Survey) (g : Grid) → IsShaped last end ws s g
    → length (take (sites g) (drop 2 (numbers ws))) ≡ sites g
one_each last end ws s g h = grind (arith, usual, length-take-le, length-drop)

-- the first drop outside the grid
pub no_site_is : (ws : List Token) (s : Survey) (g : Grid) → IsSurvey ws [] s → sites_of s ≡ sites g
    → position (nat_le (sites g)) (drop (sites g) (drop 2 (numbers ws))) ≡ s.no_site
no_site_is ws s g h room = grind (arith, usual, take_all, count_at_end, length-drop)

pub drop_count : (end : ℕ) (ws : List Token) (s : Survey) (g : Grid) → IsSurvey ws [] s → IsShaped false end ws s g
    → length (drop (sites g) (drop 2 (numbers ws))) ≡ s.count - 2 - sites g
drop_count end ws s g h shaped = grind (arith, usual, count_at_end, length-drop)
