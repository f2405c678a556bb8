-- Integers in two parts, and lists of integers that grow by a number at a time.
use Rattle.sand_group.proofs.Common.{ℕ, true, false, ◌≡◌, ◌+◌, ◌-◌, ◌<◌, ◌∙◌, inl, inr, ap, arith, List, [], ◌∷◌, ◌++◌, length, get_or, ℤ, pos, negsuc, ◌-ℤ◌, int_lt, unsigned_abs, cases_lt, ltb-true, ints, get_or_push, get_or_append_left, integer_at}

pub integer_pushed : (f : ℕ → ℤ) (xs ys : List ℤ) (x : ℤ) (n : ℕ) → ys ≡ xs ++ x ∷ [] → length xs ≡ n → x ≡ f n
    → ((i : ℕ) → i < n → integer_at xs i ≡ f i) → (i : ℕ) → i < n + 1 → integer_at ys i ≡ f i
integer_pushed f xs ys x n pushed long is each i below =
    ap (λ (zs : List ℤ). integer_at zs i) pushed ∙ elim (cases_lt i n) [
      | inl before ↦ get_or_append_left xs (x ∷ []) (pos 0) i (omega arith) ∙ each i before
      | inr after ↦ (let e : n ≡ i = omega arith in get_or_push xs x (pos 0) i (long ∙ e) ∙ is ∙ ap f e)
    ]

-- a list of integers is the difference of two lists that grow with it
pub difference_pushed : (z : List ℤ) (ps qs rs ts : List ℕ) (x y n : ℕ) → rs ≡ ps ++ x ∷ [] → ts ≡ qs ++ y ∷ []
    → length ps ≡ n → length qs ≡ n → integer_at z n ≡ pos x -ℤ pos y
    → ((i : ℕ) → i < n → integer_at z i ≡ pos (get_or ps i 0) -ℤ pos (get_or qs i 0))
    → (i : ℕ) → i < n + 1 → integer_at z i ≡ pos (get_or rs i 0) -ℤ pos (get_or ts i 0)
difference_pushed z ps qs rs ts x y n one two long_p long_q is each i below = elim (cases_lt i n) [
  | inl before ↦ omega (
    arith,
    ints,
    each i before,
    ap (λ (zs : List ℕ). get_or zs i 0) one,
    ap (λ (zs : List ℕ). get_or zs i 0) two,
    get_or_append_left ps (x ∷ []) 0 i (omega arith),
    get_or_append_left qs (y ∷ []) 0 i (omega arith),
  )
  | inr after ↦ (let e : n ≡ i = omega arith in omega (
    arith,
    ints,
    ap (integer_at z) e,
    is,
    ap (λ (zs : List ℕ). get_or zs i 0) one,
    ap (λ (zs : List ℕ). get_or zs i 0) two,
    get_or_push ps x 0 i (long_p ∙ e),
    get_or_push qs y 0 i (long_q ∙ e),
  ))
]

-- ---- an integer as its part above 0 less its part below 0

pub split_below : (z : ℤ) (size debt : ℕ) → int_lt z (pos 0) ≡ true → size ≡ unsigned_abs z → debt ≡ size
    → (z ≡ pos (size - debt) -ℤ pos debt) × (size - debt + debt ≡ unsigned_abs z)
split_below (pos n) size debt less is all = absurd (omega (arith, ltb-true n 0 less))
split_below (negsuc n) size debt less is all = (omega (arith, ints), omega (arith, ints))

pub split_above : (z : ℤ) (size debt : ℕ) → int_lt z (pos 0) ≡ false → size ≡ unsigned_abs z → debt ≡ 0
    → (z ≡ pos (size - debt) -ℤ pos debt) × (size - debt + debt ≡ unsigned_abs z)
split_above (pos n) size debt more is none = (omega (arith, ints), omega (arith, ints))
split_above (negsuc n) size debt more is none = absurd (cc)
