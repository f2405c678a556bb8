-- The numbers of a text, by its tokens and by its longest runs of digits.
use Rattle.sand_text.proofs.Common.{◌≡◌, ℕ, ◌+◌, List, ◌∷◌, ◌++◌, true, false, map, None, refl, ◌∙◌, ap, arith, append-nil, inl, inr, All, digits_value, cases_cond, nat_tests, slice_split_none, slice_split_at, Token, Letter, is_other, is_space, capped, numbers, usual}
use Rattle.sand_text.specs.Tokens.{token_of, first_strange}
use Rattle.sand_text.specs.Laws.{digit_runs, NumbersAreRuns}
use Rattle.sand_text.proofs.Cuts.{IsToken, by_tokens}
use Rattle.sand_text.proofs.StrangeBytes.{kind}

-- white space is not a digit
space_other : (b : ℕ) → is_space b ≡ true → is_other b ≡ true
space_other b e = grind (arith, nat_tests)

-- a token of digits is a run
digits_first : (w r : List ℕ) → IsToken w r → All (λ b. is_other b ≡ false) w → digit_runs (w ++ r) ≡ w ∷ digit_runs r
digits_first w r is digits = grind (arith, usual, append-nil, slice_split_none, space_other, slice_split_at)

abbrev run_values : List ℕ → List ℕ
run_values bs = map (λ run. capped (digits_value 10 run)) (digit_runs bs)

abbrev Agree : List ℕ → List Token → Type 0
Agree bs ws = (spared : List ℕ) (n : ℕ) → first_strange spared n ws ≡ None → numbers ws ≡ run_values bs

at_letter : (at : ℕ) (r : List ℕ) (ws : List Token) → Agree r ws → Agree (99 ∷ r) (Letter at ∷ ws)
unfolding first_strange
at_letter at r ws rest spared n none = grind (arith, usual, cases_cond)

at_token : (at : ℕ) (w r : List ℕ) (ws : List Token) → IsToken w r → Agree r ws → Agree (w ++ r) (token_of at w ∷ ws)
unfolding first_strange token_of
at_token at w r ws is rest spared n none = elim (kind at w) [
  | inl number ↦
      let others = rest spared (n + 1) (rw (number.0) at none) in
      rw (number.0, digits_first w r is number.1) (ap (λ ns. capped (digits_value 10 w) ∷ ns) others)
  | inr (inl letter) ↦ rw letter (at_letter at r ws rest spared n (rw letter at none))
  | inr (inr strange) ↦ let never = rw (strange.0) at none in absurd (cc)
]

pub numbers_are_runs : NumbersAreRuns
unfolding first_strange
numbers_are_runs spared text = by_tokens (λ at. Agree)
    (λ at others n none. refl)
    (λ at x xs ws e rest others n none. let other = space_other x e in rest others n none ∙ rw other refl)
    at_token 0 text spared 0
