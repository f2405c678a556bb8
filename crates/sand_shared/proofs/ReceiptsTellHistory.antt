-- No two receipts of a pass have the same number, and each number is below what the pass has seen. So a history can be
-- written from receipts: the site of each is at its number.
use Rattle.sand_shared.proofs.Common.{◌≡◌, ℕ, ◌+◌, ◌<◌, ◌≤◌, ◌≢◌, max, List, [], ◌∷◌, ◌++◌, length, get_or, eqb, ap, ⊎_elim, arith, zero, suc, ◌-◌, Some, true, set, ltb, sym, refl, ◌∙◌, nat_lt, slice_get, common_steps, same_number_lists, nat_tests, cases_eq, eq-eqb, ne_eqb, lt-ltb, sum_by_push, get_or-le-sum_by, sum_by-cons, All-append, All-cons, All-nil, one_if, Receipt, View, Terms, nobody, numbered, receipt, EachOnce, AllBelow, Stands, Tells}
use Rattle.std.proofs.lemmas.Option.{gets}
use Rattle.sand_model.proofs.Lists.{at_most_one}
use Rattle.sand_shared.proofs.SumsOverPasses.{sum_by_none, sum_by_two}

pub one_if_same : (a b : ℕ) → a ≡ b → one_if (eqb a b) ≡ 1
one_if_same a b e = rw (eq-eqb a b e)

pub one_if_other : (a b : ℕ) → a ≢ b → one_if (eqb a b) ≡ 0
one_if_other a b ne = rw (ne_eqb a b ne)

-- a number that was not yet seen is on no receipt
numbered_none : (m n : ℕ) (rs : List Receipt) → AllBelow m rs → m ≤ n → numbered rs n ≡ 0
numbered_none m n rs below le = sum_by_none (λ (r : Receipt). one_if (eqb r.number n)) rs (receipt 0 0)
    (λ k l.
    let b = below k (receipt 0 0) l in one_if_other (get_or rs k (receipt 0 0)).number n (λ e. absurd (omega arith)))

pub once_more : (m n i : ℕ) (rs : List Receipt) → m ≤ n → AllBelow m rs → EachOnce rs
    → EachOnce (rs ++ receipt n i ∷ [])
once_more m n i rs le below once x =
    let push = sum_by_push (λ (r : Receipt). one_if (eqb r.number x)) rs (receipt n i) in
    grind (arith, nat_tests, push, once x, numbered_none m x rs below)

all_below_more : (m n : ℕ) (rs : List Receipt) → m ≤ n → AllBelow m rs → AllBelow n rs
all_below_more m n rs le below = λ k d l. let b = below k d l in omega arith

pub below_push : (m n i : ℕ) (rs : List Receipt) → m ≤ n → AllBelow m rs → AllBelow (n + 1) (rs ++ receipt n i ∷ [])
below_push m n i rs le below =
    let P : Receipt → Type 0 = λ r. r.number < n + 1 in
    All-append P rs (receipt n i ∷ []) (all_below_more m (n + 1) rs (omega arith) below)
    (All-cons P (receipt n i) [] (omega arith) (All-nil P))

pub below_join : (m n : ℕ) (rs qs : List Receipt) → AllBelow m rs → AllBelow n qs → AllBelow (max m n) (rs ++ qs)
below_join m n rs qs below below' = All-append (λ (r : Receipt). r.number < max m n) rs qs
    (all_below_more m (max m n) rs (omega arith) below) (all_below_more n (max m n) qs (omega arith) below')

-- on a lawful pile no number is on two receipts
pub stands_once : (t : Terms) (a : ℕ) (v : View) → Stands t a v → EachOnce v.receipts
stands_once t a v s n =
    let mine = get_or-le-sum_by (λ (u : View). numbered u.receipts n) s.pile.passes a nobody s.there in
    let all = s.lawful.numbers n in
    omega (arith, at_most_one (nat_lt n (length s.pile.drawn)), ap (λ (u : View). numbered u.receipts n) s.pass)

-- a write changes its own entry only
pub get_set_here : {A : Type 0} (l : List A) (i : ℕ) (x : A) → i < length l → slice_get (set l i x) i ≡ Some x
get_set_here l i x h = grind (arith, common_steps, gets)

pub get_set_else : {A : Type 0} (l : List A) (i j : ℕ) (x : A) → j ≢ i → slice_get (set l i x) j ≡ slice_get l j
get_set_else l i j x n = grind (arith, common_steps, gets)

-- two receipts have different numbers
pub apart : (rs : List Receipt) (i j : ℕ) (d : Receipt) → EachOnce rs → i < length rs → j < length rs → j ≢ i
    → (get_or rs j d).number ≢ (get_or rs i d).number
apart rs i j d once li lj ne e =
    let n = (get_or rs i d).number in
    let two = sum_by_two (λ (r : Receipt). one_if (eqb r.number n)) rs i j d li lj ne in
    omega (arith, once n, one_if_same n n refl, one_if_same (get_or rs j d).number n e)

pub told_more : (rs : List Receipt) (j : ℕ) (d : Receipt) (history : List ℕ)
    → j < length rs → EachOnce rs → (get_or rs j d).number < length history
    → ((k : ℕ) → k < j → slice_get history (get_or rs k d).number ≡ Some (get_or rs k d).site)
    → (k : ℕ) → k < j + 1
    → slice_get (set history (get_or rs j d).number (get_or rs j d).site) (get_or rs k d).number
    ≡ Some (get_or rs k d).site
told_more rs j d history there once inside before k up =
    let q = get_or rs j d in
    let here = get_set_here history q.number q.site inside in
    let else = get_set_else history q.number (get_or rs k d).number q.site in
    grind (arith, here, else, apart rs j k d once there, before k)

-- a number that some receipt has
pub found : (rs : List Receipt) (n : ℕ) (d : Receipt) → 0 < numbered rs n
    → (k : ℕ) × (k < length rs) × ((get_or rs k d).number ≡ n)
found [] n d some = absurd (omega arith)
found (r ∷ rs) n d some =
    let parts = sum_by-cons (λ (q : Receipt). one_if (eqb q.number n)) r rs in ⊎_elim
    (λ (e : r.number ≡ n). (0, omega arith, e))
    (λ (ne : r.number ≡ n → ⊥).
    let z = one_if_other r.number n ne in
    let f = found rs n d (omega arith) in
    (suc f.0, (omega arith), f.2))
    (cases_eq r.number n)

pub one_below : (n m : ℕ) → n < m → one_if (nat_lt n m) ≡ 1
one_below n m l = let t : ltb n m ≡ true = lt-ltb n m l in rw t

same_lists : (l m : List ℕ) → length l ≡ length m → ((i : ℕ) → i < length l → slice_get l i ≡ slice_get m i) → l ≡ m
same_lists l m long each = same_number_lists l m long (λ k lt. same_there k lt (each k lt))
  where
    same_there : (k : ℕ) → k < length l → slice_get l k ≡ slice_get m k → get_or l k 0 ≡ get_or m k 0
    same_there k lt same = grind (arith, common_steps, gets)

-- two lists that agree with the receipts are equal, if each of their numbers has a receipt
module _ (rs : List Receipt) (drawn : List ℕ) (each : (n : ℕ) → n < length drawn → 0 < numbered rs n) where
  pub history_is : (history : List ℕ) → length history ≡ length drawn → Tells rs history → Tells rs drawn
      → history ≡ drawn
  history_is history long told true_of = same_lists history drawn long (λ n inside.
      let d = receipt 0 0 in
      let f = found rs n d (each n (omega arith)) in
      ap (slice_get history) (sym f.2) ∙ told f.0 d f.1 ∙ sym (true_of f.0 d f.1) ∙ ap (slice_get drawn) f.2)

  -- a pass with all receipts has seen all drops
  pub all_seen : (seen : ℕ) → AllBelow seen rs → length drawn ≤ seen
  all_seen seen below = from_last (length drawn) each
    where
      from_last : (m : ℕ) → ((n : ℕ) → n < m → 0 < numbered rs n) → m ≤ seen
      from_last zero every = omega arith
      from_last (suc n) every =
          let f = found rs n (receipt 0 0) (every n (omega arith)) in let b = below f.0 (receipt 0 0) f.1 in omega arith
