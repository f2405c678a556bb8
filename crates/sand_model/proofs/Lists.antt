-- Lists of the numbers below n that pass a test: their members, their length, and how they grow and shrink.
use Rattle.sand_model.proofs.Common.{ℕ, zero, suc, Bool, true, false, cond, ltb, ◌≡◌, ◌≢◌, ◌+◌, ◌<◌, ◌≤◌, ◌⊎◌, ◌&&◌, inl, inr, refl, sym, ◌∙◌, ap, subst, arith, List, [], ◌∷◌, ◌++◌, length, take, get_or, All, cases_eq, cases_Bool, lt-ltb, le-ltb, nat_tests, get_or_read, sum_by_more_le, get_or-le-sum_by, All-from_get_or, All-head, sum_below, occurrences, one_at, Lists, one_if}
use Rattle.sand_model.proofs.SumsBelow.{sum_below_same, sum_below-ones, one_at_same}
use Rattle.sand_model.proofs.Occurrences.{occurrences-cons, occurrences-push, sum_below-occurrences}
use Rattle.sand_model.proofs.Bounds.{at_most_all, fewer_than_all}

pub at_most_one : (b : Bool) → one_if b ≤ 1
at_most_one true = omega arith
at_most_one false = omega arith

pub all_or_one : (n : ℕ) (p : ℕ → Bool) → ((i : ℕ) → i < n → p i ≡ true) ⊎ ((i : ℕ) × (i < n) × (p i ≡ false))
all_or_one zero p = inl (λ i l. absurd (omega arith))
all_or_one (suc n) p = elim (all_or_one n p) [
  | inl all ↦ elim (cases_Bool (p n)) [
    | inl pass ↦ inl (λ i l. let last = ap p {x = i} {y = n} in grind (arith, all i, cases_eq i n))
    | inr fail ↦ inr (n, omega arith, fail)
  ]
  | inr one ↦ inr (one.0, omega (arith, one.1), one.2)
]

-- ---- what a listing says of one number

occurrences-listing : (n : ℕ) (p : ℕ → Bool) (xs : List ℕ) (i : ℕ) → Lists n p xs → i < n
    → occurrences xs i ≡ one_if (p i)
occurrences-listing n p xs i list l = list.each i ∙ rw (lt-ltb i n l) refl

outside : (n : ℕ) (p : ℕ → Bool) (xs : List ℕ) (i : ℕ) → Lists n p xs → n ≤ i → occurrences xs i ≡ 0
outside n p xs i list past = list.each i ∙ rw (le-ltb i n past) refl

-- a list in which each site occurs so often is a listing
pub lists_from : (n : ℕ) (p : ℕ → Bool) (xs : List ℕ)
    → ((i : ℕ) → i < n → occurrences xs i ≡ one_if (p i))
    → ((i : ℕ) → n ≤ i → occurrences xs i ≡ 0) → Lists n p xs
lists_from n p xs inside none = record { each = λ i. grind (arith, nat_tests, inside i, none i) }

pub listed : (n : ℕ) (p : ℕ → Bool) (xs : List ℕ) (i : ℕ) → Lists n p xs → i < n → p i ≡ true → occurrences xs i ≡ 1
listed n p xs i list l pass = occurrences-listing n p xs i list l ∙ ap one_if pass

pub unlisted : (n : ℕ) (p : ℕ → Bool) (xs : List ℕ) (i : ℕ) → Lists n p xs → p i ≡ false → occurrences xs i ≡ 0
unlisted n p xs i list fail = grind (arith, nat_tests, list.each i)

pub at_most_once : (n : ℕ) (p : ℕ → Bool) (xs : List ℕ) (i : ℕ) → Lists n p xs → occurrences xs i ≤ 1
at_most_once n p xs i list = omega (arith, list.each i, at_most_one (ltb i n && p i))

passes : (n : ℕ) (p : ℕ → Bool) (xs : List ℕ) (i : ℕ) → Lists n p xs → 1 ≤ occurrences xs i → p i ≡ true
passes n p xs i list some = grind (arith, cases_Bool (p i), unlisted n p xs i list)

-- ---- what is in a listing

occurrences_at : (xs : List ℕ) (k : ℕ) → k < length xs → 1 ≤ occurrences xs (get_or xs k 0)
occurrences_at xs k l =
    omega (arith, get_or-le-sum_by (λ j. one_at j (get_or xs k 0)) xs k 0 l, one_at_same (get_or xs k 0))

pub lists_below : (n : ℕ) (p : ℕ → Bool) (xs : List ℕ) → Lists n p xs → All (λ i. i < n) xs
lists_below n p xs list = All-from_get_or (λ i. i < n) xs 0
    (λ k l. grind (arith, occurrences_at xs k l, outside n p xs (get_or xs k 0) list))

-- elements of a listing are below n, pass, and do not occur earlier
pub read_below : (n : ℕ) (p : ℕ → Bool) (xs : List ℕ) (k x : ℕ) → Lists n p xs → k < length xs → x ≡ get_or xs k x
    → x < n
read_below n p xs k x list l read = omega (arith, lists_below n p xs list k x l)

pub read_passes : (n : ℕ) (p : ℕ → Bool) (xs : List ℕ) (k x : ℕ) → Lists n p xs → k < length xs → x ≡ get_or xs k x
    → p x ≡ true
read_passes n p xs k x list l read =
    let same = ap (occurrences xs) (get_or_read xs k x l read 0) in
    passes n p xs x list (omega (arith, occurrences_at xs k l))

pub read_fresh : (n : ℕ) (p : ℕ → Bool) (xs : List ℕ) (k x : ℕ) → Lists n p xs → k < length xs → x ≡ get_or xs k x
    → occurrences (take k xs) x ≡ 0
read_fresh n p xs k x list l read =
    let le = sum_by_more_le (λ j. one_at j (get_or xs k 0)) xs k 0 l in
    ap (occurrences (take k xs)) (get_or_read xs k x l read 0)
    ∙ omega (arith, one_at_same (get_or xs k 0), at_most_once n p xs (get_or xs k 0) list)

pub front_below : (n : ℕ) (p : ℕ → Bool) (xs : List ℕ) (i : ℕ) → Lists n p (i ∷ xs) → i < n
front_below n p xs i list = All-head (λ j. j < n) i xs (lists_below n p (i ∷ xs) list)

pub front_passes : (n : ℕ) (p : ℕ → Bool) (xs : List ℕ) (i : ℕ) → Lists n p (i ∷ xs) → p i ≡ true
front_passes n p xs i list = passes n p (i ∷ xs) i list (omega (arith, occurrences-cons i xs i, one_at_same i))

pub none_passes : (n : ℕ) (p : ℕ → Bool) → Lists n p [] → (i : ℕ) → i < n → p i ≡ false
none_passes n p list i l = grind (arith, cases_Bool (p i), listed n p [] i list l)

-- ---- how long a listing is

pub length-listing : (n : ℕ) (p : ℕ → Bool) (xs : List ℕ) → Lists n p xs → length xs ≡ sum_below n (λ i. one_if (p i))
length-listing n p xs list =
    sym (sum_below-occurrences n xs (lists_below n p xs list))
    ∙ sum_below_same n (occurrences xs) (λ i. one_if (p i)) (λ i l. occurrences-listing n p xs i list l)

pub lists_length : (n : ℕ) (p : ℕ → Bool) (xs : List ℕ) → Lists n p xs → length xs ≤ n
lists_length n p xs list =
    omega (arith, length-listing n p xs list, at_most_all n (λ i. one_if (p i)) (λ i l. at_most_one (p i)))

pub lists_room : (n : ℕ) (p : ℕ → Bool) (xs : List ℕ) (i : ℕ) → Lists n p xs → i < n → p i ≡ false → length xs < n
lists_room n p xs i list l fail =
    let few = fewer_than_all n (λ j. one_if (p j)) i (λ j m. at_most_one (p j)) l (ap one_if fail) in
    omega (arith, length-listing n p xs list)

-- a listing has all numbers if and only if its length is n
pub lists_all : (n : ℕ) (p : ℕ → Bool) (xs : List ℕ) → Lists n p xs → length xs ≡ n → (i : ℕ) → i < n → p i ≡ true
lists_all n p xs list full i l = grind (arith, cases_Bool (p i), lists_room n p xs i list l)

pub lists_leave : (n : ℕ) (p : ℕ → Bool) (xs : List ℕ) → Lists n p xs → length xs ≢ n
    → (i : ℕ) × (i < n) × (p i ≡ false)
lists_leave n p xs list short = elim (all_or_one n p) [
  | inl all ↦ absurd (short (length-listing n p xs list
      ∙ sum_below_same n (λ i. one_if (p i)) (λ i. 1) (λ i l. ap one_if (all i l)) ∙ sum_below-ones n))
  | inr one ↦ one
]

-- ---- when the test changes

pub lists_same : (n : ℕ) (p q : ℕ → Bool) (xs : List ℕ) → ((j : ℕ) → j < n → p j ≡ q j) → Lists n p xs → Lists n q xs
lists_same n p q xs same list = record { each = λ j. grind (arith, nat_tests, list.each j, same j) }

-- a number that begins to pass is appended
pub lists_push : (n : ℕ) (p q : ℕ → Bool) (xs : List ℕ) (i : ℕ) → Lists n p xs
    → i < n → p i ≡ false → q i ≡ true → ((j : ℕ) → j < n → j ≢ i → p j ≡ q j)
    → Lists n q (xs ++ i ∷ [])
lists_push n p q xs i list l fail pass others = record {
  each = λ j. grind (arith, nat_tests, occurrences-push xs i j, list.each j, others j, cases_eq j i);
}

-- the number at the front is dropped when it no longer passes
pub lists_pop : (n : ℕ) (p q : ℕ → Bool) (xs : List ℕ) (i : ℕ) → Lists n p (i ∷ xs)
    → q i ≡ false → ((j : ℕ) → j < n → j ≢ i → p j ≡ q j) → Lists n q xs
lists_pop n p q xs i list fail others = record {
  each = λ j.
      let few = at_most_once n p (i ∷ xs) j list in
      grind (arith, nat_tests, occurrences-cons i xs j, list.each j, others j);
}

-- ---- a listing that grows with n

pub lists_none : (p : ℕ → Bool) → Lists 0 p []
lists_none p = lists_from 0 p [] (λ i l. absurd (omega arith)) (λ i past. refl)

pub lists_more_yes : (n : ℕ) (p : ℕ → Bool) (xs : List ℕ) → Lists n p xs → p n ≡ true → Lists (n + 1) p (xs ++ n ∷ [])
lists_more_yes n p xs list pass = record {
  each = λ i. grind (arith, nat_tests, occurrences-push xs n i, list.each i, cases_eq i n);
}

pub lists_more_no : (n : ℕ) (p : ℕ → Bool) (xs : List ℕ) → Lists n p xs → p n ≡ false → Lists (n + 1) p xs
lists_more_no n p xs list fail = record { each = λ i. grind (arith, nat_tests, list.each i, cases_eq i n) }

pub lists_more : (n : ℕ) (p : ℕ → Bool) (xs : List ℕ) → Lists n p xs → Lists (n + 1) p (cond (p n) (xs ++ n ∷ []) xs)
lists_more n p xs list = elim (cases_Bool (p n)) [
  | inl pass ↦ rw pass (lists_more_yes n p xs list pass)
  | inr fail ↦ rw fail (lists_more_no n p xs list fail)
]

pub lists_of : (n m : ℕ) (p : ℕ → Bool) (xs : List ℕ) → n ≡ m → Lists n p xs → Lists m p xs
lists_of n m p xs e list = subst (λ k. Lists k p xs) e list
