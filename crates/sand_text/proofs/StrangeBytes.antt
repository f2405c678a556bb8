-- The first strange byte of a text, by its tokens and by its bytes.
use Rattle.sand_text.proofs.Common.{◌≡◌, ℕ, ◌+◌, ◌-◌, ◌<◌, List, [], ◌∷◌, ◌++◌, true, false, length, get_or, Option, Some, None, refl, sym, ◌∙◌, ap, arith, inl, inr, length-append, MatchOption, ◌⊎◌, All, list_any, digits_value, cases_lt, cases_Bool, both_ways, and_right, cond_both, eqb-true, get_or_append_left, get_or-append_right, get_or-append-add, prefix_len-le-length, fails_before_first, passes_at_first, Token, Number, Letter, Strange, is_other, is_space, digits_len, capped, tokens_at, tokens, usual}
use Rattle.std.proofs.Common.{◌==◌}
use Rattle.sand_text.specs.Tokens.{token_of, first_strange}
use Rattle.sand_text.specs.Laws.{is_strange, OnlyLetters, StrangeByte}
use Rattle.sand_text.proofs.Cuts.{IsToken, by_tokens}

-- ---- what a token is

abbrev pub IsNumber : ℕ → List ℕ → Type 0
IsNumber at w = (token_of at w ≡ Number at (capped (digits_value 10 w))) × All (λ b. is_other b ≡ false) w

abbrev pub IsStrange : ℕ → List ℕ → Type 0
IsStrange at w = (token_of at w ≡ Strange (at + digits_len w)) × (digits_len w < length w)

one_byte : (w : List ℕ) → length w ≡ 1 → get_or w 0 0 ≡ 99 → w ≡ 99 ∷ []
one_byte w len first = grind (arith, usual)

pub kind : (at : ℕ) (w : List ℕ) → IsNumber at w ⊎ ((w ≡ 99 ∷ []) ⊎ IsStrange at w)
unfolding token_of
kind at w = grind (arith, usual, cases_Bool, eqb-true, fails_before_first, one_byte, prefix_len-le-length)

-- ---- the first strange byte

-- the claim for a text that starts at an offset
abbrev Claim : ℕ → List ℕ → Option ℕ → Type 0
Claim at bs found = MatchOption found (OnlyLetters bs (length bs))
    (λ p. (j : ℕ) × (p ≡ at + j) × (j < length bs) × (is_strange (get_or bs j 0) ≡ true) × OnlyLetters bs j)

only_more : (xs ys : List ℕ) (e : ℕ) → OnlyLetters xs (length xs) → OnlyLetters ys e
    → OnlyLetters (xs ++ ys) (length xs + e)
only_more xs ys e front more = λ k lt s. elim (cases_lt k (length xs)) [
  | inl low ↦
      let here = get_or_append_left xs ys 0 k low in
      here ∙ front k low (sym (ap is_strange here) ∙ s)
  | inr high ↦
      let here = get_or-append_right xs ys (length xs) k 0 refl high in
      here ∙ more (k - length xs) (omega arith) (sym (ap is_strange here) ∙ s)
]

-- the claim passes over bytes that are not strange, or letters
passing : (at : ℕ) (xs ys : List ℕ) (found : Option ℕ) → OnlyLetters xs (length xs)
    → Claim (at + length xs) ys found → Claim at (xs ++ ys) found
passing at xs ys None front only =
    λ k lt. only_more xs ys (length ys) front only k (omega (arith, length-append xs ys))
passing at xs ys (Some p) front (j, is, lt, strange, only) = (
  length xs + j,
  omega (arith, is),
  omega (arith, lt, length-append xs ys),
  ap is_strange (get_or-append-add xs ys j 0) ∙ strange,
  only_more xs ys j front only,
)

space_passes : (b : ℕ) → is_space b ≡ true → is_strange b ≡ false
space_passes b e = rw e (and_right (is_other b) false refl)

digit_passes : (b : ℕ) → is_other b ≡ false → is_strange b ≡ false
digit_passes b e = rw e refl

abbrev Claims : ℕ → List ℕ → List Token → Type 0
Claims at bs ws = (spared : List ℕ) (n : ℕ) → Claim at bs (first_strange spared n ws)

at_letter : (at : ℕ) (r : List ℕ) (ws : List Token) → Claims (at + 1) r ws → Claims at (99 ∷ r) (Letter at ∷ ws)
unfolding first_strange
at_letter at r ws rest spared n = cond_both (list_any (λ k. k == n) spared) _ _ (Claim at (99 ∷ r))
    (λ _. passing at (99 ∷ []) r _ (λ k lt s. let first : k ≡ 0 = omega arith in rw first refl) (rest _ n))
    (λ _. (0, omega arith, omega arith, refl, λ k lt. absurd (omega arith)))

at_strange : (at : ℕ) (w r : List ℕ) → IsToken w r → digits_len w < length w
    → Claim at (w ++ r) (Some (at + digits_len w))
at_strange at w r is lt =
    grind (arith, usual, get_or_append_left, passes_at_first, both_ways, digit_passes, fails_before_first)

at_token : (at : ℕ) (w r : List ℕ) (ws : List Token) → IsToken w r → Claims (at + length w) r ws
    → Claims at (w ++ r) (token_of at w ∷ ws)
unfolding first_strange token_of
at_token at w r ws is rest spared n = elim (kind at w) [
  | inl number ↦ rw (number.0) (passing at w r _
      (λ k lt s. absurd (both_ways (is_strange (get_or w k 0)) (digit_passes (get_or w k 0) (number.1 k 0 lt)) s))
      (rest spared (n + 1)))
  | inr (inl letter) ↦ rw letter (at_letter at r ws (rw letter at rest) spared n)
  | inr (inr strange) ↦ rw (strange.0) (at_strange at w r is strange.1)
]

claims : (at : ℕ) (bs : List ℕ) → Claims at bs (tokens_at at bs)
unfolding first_strange
claims = by_tokens Claims
    (λ at spared n k lt. absurd (omega arith))
    (λ at x xs ws e rest spared n. passing at (x ∷ []) xs _ (λ k lt s.
    let first : k ≡ 0 = omega arith in
    absurd (both_ways (is_strange x) (space_passes x e) (rw first at s))) (rest spared n))
    at_token

found_at : (text : List ℕ) (found : Option ℕ) → Claim 0 text found
    → MatchOption found (OnlyLetters text (length text))
    (λ at. (at < length text) × (is_strange (get_or text at 0) ≡ true) × OnlyLetters text at)
found_at text None h = h
found_at text (Some p) h = grind (arith, usual)

pub strange_byte : StrangeByte
strange_byte spared text = found_at text (first_strange spared 0 (tokens text)) (claims 0 text spared 0)
