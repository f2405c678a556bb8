-- A text is cut into white space and tokens, so a claim for all texts is proved byte by byte of the white space, and
-- token by token.
use Rattle.sand_text.proofs.Common.{◌≡◌, ℕ, suc, zero, ◌+◌, ◌<◌, ◌≤◌, List, [], ◌∷◌, ◌++◌, Bool, true, false, not, length, take, drop, get_or, refl, sym, ◌∙◌, ap, arith, add-zero, append-nil, drop-cons, length-append, length-drop, inl, inr, subst, not-true, cases_Bool, get_or-drop, nil_from_length, take-append-drop, length-prefix_len, slice_split_none, slice_split_at, prefix_len-le-length, fails_before_first, passes_at_first, All, position_or_len, position, unwrap_or, is_space, token_len, token_of, tokens_at, Token, usual}
use Rattle.std.proofs.lemmas.Grind.{common_steps}
use Rattle.sand_text.specs.Tokens.{tokens_from}

pub unwrap_position : (p : ℕ → Bool) (xs : List ℕ) → unwrap_or (position p xs) (length xs) ≡ position_or_len p xs
unwrap_position p xs = grind (arith, common_steps, prefix_len-le-length (λ x. not (p x)) xs)

-- a token w at the front of a text, and what follows it
pub record IsToken (w r : List ℕ) : Type 0 where
  pub some : 0 < length w
  pub plain : All (λ b. is_space b ≡ false) w
  pub ends : 0 < length r → is_space (get_or r 0 0) ≡ true

pub after_space : (at x : ℕ) (xs : List ℕ) → is_space x ≡ true → tokens_at at (x ∷ xs) ≡ tokens_at (at + 1) xs
unfolding tokens_from
after_space at x xs e = rw e refl

pub after_token : (at : ℕ) (w r : List ℕ) → IsToken w r
    → tokens_at at (w ++ r) ≡ token_of at w ∷ tokens_at (at + length w) r
unfolding tokens_from
after_token at w r is = grind (arith, usual, append-nil, slice_split_none, slice_split_at)

-- the bytes up to the first white space are a token
pub first_token : (t : List ℕ) → 0 < length t → is_space (get_or t 0 0) ≡ false
    → IsToken (take (token_len t) t) (drop (token_len t) t)
first_token t some e =
    grind (arith, usual, length-prefix_len, fails_before_first, get_or-drop, passes_at_first, length-drop)

-- ---- by tokens

module _ (P : ℕ → List ℕ → List Token → Type 0)
    (none : (at : ℕ) → P at [] [])
    (space : (at x : ℕ) (xs : List ℕ) (ws : List Token) → is_space x ≡ true → P (at + 1) xs ws → P at (x ∷ xs) ws)
    (token : (at : ℕ) (w r : List ℕ) (ws : List Token) → IsToken w r → P (at + length w) r ws
    → P at (w ++ r) (token_of at w ∷ ws)) where
  by_length : (fuel at : ℕ) (bs : List ℕ) → length bs ≤ fuel → P at bs (tokens_at at bs)
  unfolding tokens_from
  by_length fuel at [] le = none at
  by_length zero at (x ∷ xs) le = absurd (omega arith)
  by_length (suc fuel) at (x ∷ xs) le = elim (cases_Bool (is_space x)) [
    | inl e ↦ rw (after_space at x xs e) (space at x xs _ e (by_length fuel (at + 1) xs (omega arith)))
    | inr e ↦
        let w = take (token_len (x ∷ xs)) (x ∷ xs) in
        let r = drop (token_len (x ∷ xs)) (x ∷ xs) in
        let is : IsToken w r = first_token (x ∷ xs) (omega arith) e in
        let whole : w ++ r ≡ x ∷ xs = take-append-drop (token_len (x ∷ xs)) (x ∷ xs) in
        let few : length r ≤ fuel = omega (arith, is.some, ap length whole, length-append w r) in
        subst (λ (bs : List ℕ). P at bs (tokens_at at bs)) whole
        (rw (after_token at w r is) (token at w r _ is (by_length fuel (at + length w) r few)))
  ]

  -- a claim for all texts
  pub by_tokens : (at : ℕ) (bs : List ℕ) → P at bs (tokens_at at bs)
  by_tokens at bs = by_length (length bs) at bs (omega arith)

-- ---- a step of the pass over the tokens

-- the number of bytes of white space at the front
abbrev gap_len : List ℕ → ℕ
gap_len bs = position_or_len (λ b. not (is_space b)) bs

gap : (at : ℕ) (bs : List ℕ) → tokens_at at bs ≡ tokens_at (at + gap_len bs) (drop (gap_len bs) bs)
unfolding tokens_from
gap at [] = refl
gap at (x ∷ xs) = elim (cases_Bool (is_space x)) [
  | inl e ↦
      let places : at + 1 + gap_len xs ≡ at + suc (gap_len xs) = omega arith in
      let one : gap_len (x ∷ xs) ≡ suc (gap_len xs) = rw e (omega arith) in
      after_space at x xs e ∙ (gap (at + 1) xs ∙ rw (one, places) refl)
  | inr e ↦ let none : gap_len (x ∷ xs) ≡ 0 = rw e refl in rw (none, add-zero) refl
]

-- nothing follows the white space at the front
pub none_left : (at k : ℕ) (bs : List ℕ) → k ≡ gap_len bs → length (drop k bs) ≡ 0 → tokens_at at bs ≡ []
unfolding tokens_from
none_left at k bs e none = grind (arith, usual, nil_from_length, gap)

-- t is the text from the first token on, w the token, and r what follows it
pub token_left : (at k len : ℕ) (bs t w r : List ℕ)
    → k ≡ gap_len bs → t ≡ drop k bs → len ≡ token_len t
    → 0 < length t → w ≡ take len t → r ≡ drop len t
    → tokens_at at bs ≡ (token_of (at + k) w ∷ tokens_at (at + k + len) r)
token_left at k len bs t w r ke te le some we re =
    let lt : k < length bs = omega (arith, length-drop k bs, ap length te) in
    let first : get_or t 0 0 ≡ get_or bs k 0 = ap (λ (l : List ℕ). get_or l 0 0) (te ∙ drop-cons bs k 0 lt) in
    let no_space = not-true (is_space (get_or bs k 0))
    (rw (← ke) at (passes_at_first {X = ℕ} (λ b. not (is_space b)) bs 0 (rw (← ke) lt))) in
    let is = first_token t some (ap is_space first ∙ no_space) in
    let width : length (take len t) ≡ len = rw le (length-prefix_len (λ b. not (is_space b)) t) in
    let cut = ap (tokens_at (at + k)) (sym (take-append-drop len t))
    ∙ after_token (at + k) (take len t) (drop len t) (rw le is) in
    gap at bs ∙ rw (← ke, ← te) (rw (we, re) (rw width at cut))
