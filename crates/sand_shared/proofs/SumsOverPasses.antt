-- Sums over the passes of a pile: one pass changes, one has everything, and the order of two sums.
use Rattle.sand_shared.proofs.Common.{◌≡◌, ℕ, zero, suc, ◌+◌, ◌<◌, ◌≤◌, ◌≢◌, List, [], ◌∷◌, map, length, set, get_or, sum_by, All, sym, refl, ap, ◌∙◌, subst, ⊎_elim, arith, cases_eq, get_or-set_same, get_or-set_other, length-set, All-from_get_or, sum_by-cons, sum_by-set, sum_by-le, sum_by-le-sum_by, get_or-le-sum_by}

module _ {A : Type 0} where
  sum_by_le : (f g : A → ℕ) (l : List A) (d : A) → ((j : ℕ) → j < length l → f (get_or l j d) ≤ g (get_or l j d))
      → sum_by f l ≤ sum_by g l
  sum_by_le f g [] d le = omega arith
  sum_by_le f g (x ∷ xs) d le =
      let here = le 0 (omega arith) in
      let rest = sum_by_le f g xs d (λ j l. le (suc j) (omega arith)) in
      omega (arith, sum_by-cons f x xs, sum_by-cons g x xs)

  sum_by_same : (f g : A → ℕ) (l : List A) → ((x : A) → f x ≡ g x) → sum_by f l ≡ sum_by g l
  sum_by_same f g l same =
      let up = sum_by-le-sum_by f g l (λ x. let e = same x in omega arith) in
      let down = sum_by-le-sum_by g f l (λ x. let e = same x in omega arith) in omega arith

  pub sum_by_none : (f : A → ℕ) (l : List A) (d : A) → ((j : ℕ) → j < length l → f (get_or l j d) ≡ 0) → sum_by f l ≡ 0
  sum_by_none f l d none =
      let few = All-from_get_or (λ x. f x ≤ 0) l d (λ j inside. let e = none j inside in omega arith) in
      omega (arith, sum_by-le f 0 l few)

  pub sum_by_plus : (f g : A → ℕ) (l : List A) → sum_by (λ x. f x + g x) l ≡ sum_by f l + sum_by g l
  sum_by_plus f g [] = refl
  sum_by_plus f g (x ∷ xs) =
      let rest = sum_by_plus f g xs in
      omega (arith, sum_by-cons f x xs, sum_by-cons g x xs, sum_by-cons (λ y. f y + g y) x xs)

  -- an entry is replaced by one with the same f
  pub sum_by_kept : (f : A → ℕ) (l : List A) (i : ℕ) (w d : A) → i < length l → f w ≡ f (get_or l i d)
      → sum_by f (set l i w) ≡ sum_by f l
  sum_by_kept f l i w d inside same = let t = sum_by-set f l i w d inside in omega arith

  -- two different entries have at most the total
  pub sum_by_two : (f : A → ℕ) (l : List A) (i j : ℕ) (d : A) → i < length l → j < length l → j ≢ i
      → f (get_or l i d) + f (get_or l j d) ≤ sum_by f l
  sum_by_two f [] i j d li lj ne = absurd (omega arith)
  sum_by_two f (x ∷ xs) zero zero d li lj ne = absurd (ne refl)
  sum_by_two f (x ∷ xs) zero (suc j) d li lj ne =
      omega (arith, sum_by-cons f x xs, get_or-le-sum_by f xs j d (omega arith))
  sum_by_two f (x ∷ xs) (suc i) zero d li lj ne =
      omega (arith, sum_by-cons f x xs, get_or-le-sum_by f xs i d (omega arith))
  sum_by_two f (x ∷ xs) (suc i) (suc j) d li lj ne =
      let rest = sum_by_two f xs i j d (omega arith) (omega arith) (λ e. ne (ap suc e)) in
      omega (arith, sum_by-cons f x xs)

  -- if all others have none, one entry has the total
  pub sum_by_only : (f : A → ℕ) (l : List A) (i : ℕ) (d : A) → i < length l
      → ((j : ℕ) → j < length l → j ≢ i → f (get_or l j d) ≡ 0)
      → sum_by f l ≡ f (get_or l i d)
  sum_by_only f [] i d inside none = absurd (omega arith)
  sum_by_only f (x ∷ xs) zero d inside none =
      let rest = sum_by_none f xs d (λ j l. none (suc j) (omega arith) (λ e. omega arith)) in
      omega (arith, sum_by-cons f x xs)
  sum_by_only f (x ∷ xs) (suc i) d inside none =
      let here = none 0 (omega arith) (λ e. omega arith) in
      let rest = sum_by_only f xs i d (omega arith) (λ j l ne. none (suc j) (omega arith) (λ e. ne (omega arith))) in
      omega (arith, sum_by-cons f x xs)

  -- if an entry has no f, the total of f plus its g is at most the total of g
  pub sum_by_beside : (f g : A → ℕ) (l : List A) (i : ℕ) (d : A)
      → i < length l → f (get_or l i d) ≡ 0
      → ((j : ℕ) → j < length l → f (get_or l j d) ≤ g (get_or l j d))
      → sum_by f l + g (get_or l i d) ≤ sum_by g l
  sum_by_beside f g [] i d inside zero_here le = absurd (omega arith)
  sum_by_beside f g (x ∷ xs) zero d inside zero_here le =
      let rest = sum_by_le f g xs d (λ j l. le (suc j) (omega arith)) in
      omega (arith, sum_by-cons f x xs, sum_by-cons g x xs)
  sum_by_beside f g (x ∷ xs) (suc i) d inside zero_here le =
      let here = le 0 (omega arith) in
      let rest = sum_by_beside f g xs i d (omega arith) zero_here (λ j l. le (suc j) (omega arith)) in
      omega (arith, sum_by-cons f x xs, sum_by-cons g x xs)

  -- an entry is replaced, and Q holds of it and of all others
  pub all_put : (Q : A → Type 0) (l : List A) (i : ℕ) (w d : A) → i < length l → Q w
      → ((j : ℕ) → j < length l → j ≢ i → Q (get_or l j d))
      → All Q (set l i w)
  all_put Q l i w d inside new others =
      All-from_get_or Q (set l i w) d (λ j there. let long = length-set l i w in ⊎_elim
      (λ (e : j ≡ i). subst Q (sym (ap (λ k. get_or (set l i w) k d) e ∙ get_or-set_same l i w d inside)) new)
      (λ (ne : j ≡ i → ⊥). subst Q (sym (get_or-set_other l i j w d ne)) (others j (omega arith) ne))
      (cases_eq j i))

pub sum_by-map : {A B : Type 0} (f : A → ℕ) (h : B → A) (l : List B) → sum_by f (map h l) ≡ sum_by (λ x. f (h x)) l
sum_by-map f h [] = refl
sum_by-map f h (x ∷ xs) =
    let rest = sum_by-map f h xs in
    omega (arith, sum_by-cons f (h x) (map h xs), sum_by-cons (λ y. f (h y)) x xs)

pub sum_by_swap : {A B : Type 0} (f : A → B → ℕ) (l : List A) (m : List B)
    → sum_by (λ x. sum_by (f x) m) l ≡ sum_by (λ y. sum_by (λ x. f x y) l) m
sum_by_swap f [] m = let none = sum_by-le (λ y. 0) 0 m (λ k d inside. omega arith) in omega arith
sum_by_swap f (x ∷ xs) m =
    let same = sum_by_same (λ y. sum_by (λ z. f z y) (x ∷ xs)) (λ y. f x y + sum_by (λ z. f z y) xs) m
    (λ y. sum_by-cons (λ z. f z y) x xs) in
    let rest = sum_by_swap f xs m in
    let both = sum_by_plus (f x) (λ y. sum_by (λ z. f z y) xs) m in
    omega (arith, sum_by-cons (λ z. sum_by (f z) m) x xs)
