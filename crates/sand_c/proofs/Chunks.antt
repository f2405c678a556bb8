-- Lists of n numbers each, one after another.
use Rattle.sand_c.proofs.Common.{◌≡◌, ◌∙◌, ◌+◌, ◌*◌, ◌<◌, ◌≤◌, ℕ, zero, suc, List, [], ◌∷◌, ◌++◌, length, take, get_or, true, false, inl, inr, ap, arith, subst, Option, Some, None, IfNone, is_some, sum, slice_chunk, cases_lt, and_parts, and_left, and_right, leb-true, lt-leb, length-append, length-drop, length-take-le, take-append-le, drop-append-le, drop_at, take_all, get_or_push, get_or_append_left, are_within}
use Rattle.std.proofs.Common.{drop}
use Rattle.std.proofs.Math.Nat.{mul-le-mul_right}

has_room : (n j k : ℕ) → j < k → (j + 1) * n ≤ k * n
has_room n j k lt = mul-le-mul_right n (omega arith)

-- a chunk has n numbers
pub has_n : (n j k : ℕ) (xs : List ℕ) → length xs ≡ k * n → j < k → length (slice_chunk xs n j) ≡ n
has_n n j k xs len lt =
    let room = has_room n j k lt in
    let left = length-drop (j * n) xs in
    length-take-le n (drop (j * n) xs) (omega arith)

-- a list zs is a list xs, followed by one more chunk ys, or by one more number y
module _ (k : ℕ) (xs : List ℕ) where
  pub longer : (n : ℕ) (ys zs : List ℕ) → length xs ≡ k * n → length ys ≡ n → zs ≡ xs ++ ys → length zs ≡ (k + 1) * n
  longer n ys zs len each is = ap length is ∙ length-append xs ys ∙ omega arith

  pub chunk_before : (n j : ℕ) (ys zs : List ℕ) → length xs ≡ k * n → zs ≡ xs ++ ys → j < k
      → slice_chunk zs n j ≡ slice_chunk xs n j
  chunk_before n j ys zs len is lt =
      let room = has_room n j k lt in
      let left = length-drop (j * n) xs in
      ap (λ l. slice_chunk l n j) is ∙ ap (take n) (drop-append-le (j * n) xs ys (omega arith))
      ∙ take-append-le n (drop (j * n) xs) ys (omega arith)

  pub chunk_last : (n : ℕ) (ys zs : List ℕ) → length xs ≡ k * n → length ys ≡ n → zs ≡ xs ++ ys → slice_chunk zs n k ≡ ys
  chunk_last n ys zs len each is =
      ap (λ l. slice_chunk l n k) is ∙ ap (take n) (drop_at xs ys (k * n) len) ∙ take_all n ys (omega arith)

  pub number_before : (j y : ℕ) (zs : List ℕ) → length xs ≡ k → zs ≡ xs ++ y ∷ [] → j < k → get_or zs j 0 ≡ get_or xs j 0
  number_before j y zs len is lt = ap (λ l. get_or l j 0) is ∙ get_or_append_left xs (y ∷ []) 0 j (omega arith)

  pub number_last : (y : ℕ) (zs : List ℕ) → length xs ≡ k → zs ≡ xs ++ y ∷ [] → get_or zs k 0 ≡ y
  number_last y zs len is = ap (λ l. get_or l k 0) is ∙ get_or_push xs y 0 k len

-- each of several piles that are within the limit
pub each_within : (most n : ℕ) (heights : List ℕ) (k : ℕ) → are_within most n heights k ≡ true
    → (j : ℕ) → j < k → sum (slice_chunk heights n j) ≤ most
each_within most n heights zero all j lt = absurd (omega arith)
each_within most n heights (suc k) all j lt =
    let both = and_parts _ _ all in
    elim (cases_lt j k) [
      | inl earlier ↦ each_within most n heights k both.0 j earlier
      | inr latest ↦
          let e : j ≡ k = omega arith in
          rw e (leb-true (sum (slice_chunk heights n k)) most both.1)
    ]

-- one that is over the limit
pub one_over : (most n : ℕ) (heights : List ℕ) (k j : ℕ) → j < k → most < sum (slice_chunk heights n j)
    → are_within most n heights k ≡ false
one_over most n heights zero j lt over = absurd (omega arith)
one_over most n heights (suc k) j lt over = elim (cases_lt j k) [
  | inl earlier ↦ and_left _ _ (one_over most n heights k j earlier over)
  | inr latest ↦
      let e : j ≡ k = omega arith in
      let over_at_k = subst (λ i. most < sum (slice_chunk heights n i)) e over in
      and_right _ _ (lt-leb (sum (slice_chunk heights n k)) most over_at_k)
]

pub of_none : {A : Type 0} (o : Option A) (P : Type 0) → is_some o ≡ false → IfNone o P → P
of_none None P none p = p
of_none (Some x) P none p = absurd (cc)
