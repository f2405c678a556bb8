-- Lists of the sites that pass a test: whether a site is in one, and that an ascending list stays ascending.
use Rattle.sand_group.proofs.Common.{ℕ, Bool, true, not, ◌≡◌, ◌+◌, ◌<◌, ◌≤◌, ap, arith, List, [], ◌∷◌, ◌++◌, length, All, ⊎_elim, IsStrictlyIncreasing, cases_lt, cases_Bool, le-ltb, nat_tests, length_push, get_or_append_left, get_or_push, All-get_or, occurrences, Lists, listed, unlisted, is_in, is_out}

pub is_out-none : (xs : List ℕ) (i : ℕ) → occurrences xs i ≡ 0 → is_out xs i ≡ true
is_out-none xs i none = ap not (le-ltb 0 (occurrences xs i) (omega arith))

pub is_in_listing : (n : ℕ) (p : ℕ → Bool) (xs : List ℕ) → Lists n p xs → (i : ℕ) → i < n → is_in xs i ≡ p i
is_in_listing n p xs list i l =
    grind (arith, nat_tests, cases_Bool (p i), listed n p xs i list l, unlisted n p xs i list)

-- an ascending list stays ascending after a push of a greater number
pub increasing_push : (n : ℕ) (xs : List ℕ) → IsStrictlyIncreasing xs → All (λ i. i < n) xs
    → IsStrictlyIncreasing (xs ++ n ∷ [])
increasing_push n xs rises below k l =
    let push = length_push xs n in
    let first = get_or_append_left xs (n ∷ []) 0 k (omega arith) in
    ⊎_elim
    (λ (before : k + 1 < length xs).
    let next = get_or_append_left xs (n ∷ []) 0 (k + 1) before in let up = rises k before in omega arith)
    (λ (last : length xs ≤ k + 1).
    let next = get_or_push xs n 0 (k + 1) (omega arith) in
    let low = All-get_or (λ i. i < n) xs k 0 (omega arith) below in
    omega arith)
    (cases_lt (k + 1) (length xs))
