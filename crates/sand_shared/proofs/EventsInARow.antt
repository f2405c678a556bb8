-- Several events in one step, draws or places on one site: when they can happen, where they lead, what they tell.
use Rattle.sand_shared.proofs.Common.{◌≡◌, ℕ, zero, suc, ◌+◌, ◌-◌, ◌*◌, ◌/◌, ◌%◌, ◌^◌, ◌<◌, ◌≤◌, List, [], ◌∷◌, ◌++◌, length, sym, refl, ap, ◌∙◌, subst, arith, length-append, slice_index, All, count_by, append_assoc, append-nil, set-set, length-map, length-replicate, get_or-set_same, State, Me, Allows, sites, View, Receipt, Terms, OpenPile, nobody, grid_of_terms, pass_at, AreTerms, IsLawful, Event, draw, place, receipt, grains_for, are_for, drew, drew_all, after_laying, receipts_from, one_for_each, all_draws, all_places, May, after, AllHappen, after_all, Takes, Shows, IsRunning, Stands, found, Finds, Happened, EachOnce, AllBelow, mod-add-div', add-mul-mod_self_right, lt-length-set, All-map, All-replicate, All-tail}
use Rattle.sand_shared.proofs.ReceiptsTellHistory.{once_more, below_push}
use Rattle.sand_shared.proofs.HandAfterPlacing.{laid_on, count-without}
use Rattle.sand_shared.proofs.Lawfulness.{event_keeps, all_keep, few_drawn}
use Rattle.sand_shared.proofs.WordsShowPile.{stepped_to, pass_at-with, shows_draw, shows_arrived}
use Rattle.sand_shared.proofs.StepsAreEvents.{takes}

-- an event of the pass a that adds 1 to a word, whatever else has happened
abbrev AddsOne : Terms → ℕ → ℕ → Event → Type 0
AddsOne t word a e = (p : OpenPile) (s : State ℕ View) → AreTerms t → IsLawful t p → May t p e → Shows t p s
    → Shows t (after t p e) (stepped_to s word ((slice_index s.words word + 1) % 2 ^ 64) a (pass_at (after t p e) a))

mod_plus : (n k m : ℕ) → (n % m + k) % m ≡ (n + k) % m
mod_plus n k m =
    let parts = mod-add-div' n m in
    sym (add-mul-mod_self_right (n % m + k) (n / m) m)
    ∙ ap (λ z. z % m) {x = n % m + k + n / m * m} {y = n + k} (omega arith)

stepped_twice : (s : State ℕ View) (word x y a : ℕ) (v w : View)
    → stepped_to (stepped_to s word x a v) word y a w ≡ stepped_to s word y a w
stepped_twice s word x y a v w = λ q.
    record { words = set-set s.words word x y q; homes = s.homes; views = set-set s.views a v w q }

-- n such events add n
shows_row : (t : Terms) (word a : ℕ) (e : Event) (es : List Event) (p : OpenPile) (s : State ℕ View)
    → word < sites (grid_of_terms t) + 2
    → All (AddsOne t word a) (e ∷ es)
    → AreTerms t → IsLawful t p → AllHappen t p (e ∷ es) → Shows t p s
    → Shows t (after_all t p (e ∷ es))
    (stepped_to s word ((slice_index s.words word + suc (length es)) % 2 ^ 64) a (pass_at (after_all t p (e ∷ es)) a))
shows_row t word a e [] p s fits ones terms r may h = ones 0 e (omega arith) p s terms r may.0 h
shows_row t word a e (f ∷ es) p s fits ones terms r may h =
    let n = slice_index s.words word in
    let x = (n + 1) % 2 ^ 64 in
    let q = after t p e in
    let v = pass_at q a in
    let s' = stepped_to s word x a v in
    let rest = shows_row t word a f es q s' fits (All-tail (AddsOne t word a) e (f ∷ es) ones) terms
    (event_keeps t p e terms r may.0) may.1 (ones 0 e (omega arith) p s terms r may.0 h) in
    let now : slice_index s'.words word ≡ x = get_or-set_same s.words word x 0 (omega arith) in
    let sum : (slice_index s'.words word + suc (length es)) % 2 ^ 64 ≡ (n + suc (suc (length es))) % 2 ^ 64 =
    ap (λ z. (z + suc (length es)) % 2 ^ 64) now ∙ (mod_plus (n + 1) (suc (length es)) (2 ^ 64)
    ∙ ap (λ z. z % 2 ^ 64) {x = n + 1 + suc (length es)} {y = n + suc (suc (length es))} (omega arith)) in
    let w = pass_at (after_all t q (f ∷ es)) a in
    subst (Shows t (after_all t q (f ∷ es)))
    (ap (λ z. stepped_to s' word z a w) sum ∙ stepped_twice s word x ((n + suc (suc (length es))) % 2 ^ 64) a v w) rest

-- a step is allowed if its events can happen whatever else has happened
takes_row : (t : Terms) (a word k : ℕ) (e : Event) (es : List Event) (slots : ℕ) (m : Me ℕ View)
    → word < sites (grid_of_terms t) + 2 → All (AddsOne t word a) (e ∷ es) → suc (length es) ≡ k
    → ((x : Stands t a m.0) → AllHappen t x.pile (e ∷ es))
    → ((p : OpenPile) (s : State ℕ View) → Shows t p s → slice_index s.words word ≡ found p e)
    → Allows (IsRunning t) slots a m word (λ n. (n + k) % 2 ^ 64) (Takes t a (e ∷ es) m)
takes_row t a word k e es slots m fits ones long can finds =
    takes t a (e ∷ es) slots m word (λ n. (n + k) % 2 ^ 64) can
    (λ x s may h.
    let q = after_all t x.pile (e ∷ es) in (
      finds x.pile s h,
      subst (λ z. Shows t q (stepped_to s word ((slice_index s.words word + z) % 2 ^ 64) a (pass_at q a))) long
          (shows_row t word a e es x.pile s fits ones x.terms x.lawful may h),
    ))

-- Draws in a row

drew_more : (v : View) (n i : ℕ) (is : List ℕ) → drew_all (drew v n i) (n + 1) is ≡ drew_all v n (i ∷ is)
drew_more v n i is =
    let left : v.left - 1 - length is ≡ v.left - suc (length is) = omega arith in
    let seen : n + 1 + length is ≡ n + suc (length is) = omega arith in
    let receipts = append_assoc v.receipts (receipt n i ∷ []) (receipts_from (n + 1) is) in
    let hand = append_assoc v.hand (grains_for i 1 ∷ []) (one_for_each is) in
    λ q. record v { left = left q; seen = seen q; receipts = receipts q; hand = hand q }

drew_none : (v : View) (n : ℕ) → v.seen ≡ n → drew_all v n [] ≡ v
drew_none v n e =
    let left : v.left - 0 ≡ v.left = omega arith in
    let seen : n + 0 ≡ v.seen = omega arith in
    λ q. record v { left = left q; seen = seen q; receipts = append-nil v.receipts q; hand = append-nil v.hand q }

module _ (t : Terms) (a : ℕ) where
  drawn_long : (p : OpenPile) (is : List ℕ) → length (after_all t p (all_draws a is)).drawn ≡ length p.drawn + length is
  drawn_long p [] = omega arith
  drawn_long p (i ∷ is) = omega (arith, drawn_long (after t p (draw a i)) is, length-append p.drawn (i ∷ []))

  pass_after_draw : (p : OpenPile) (i : ℕ) → a < length p.passes
      → pass_at (after t p (draw a i)) a ≡ drew (pass_at p a) (length p.drawn) i
  pass_after_draw p i there = pass_at-with p a (drew (pass_at p a) (length p.drawn) i) there

  -- the first draw tells the pass of all draws before it, whatever it had seen
  pass_after_all : (p : OpenPile) (is : List ℕ) → a < length p.passes
      → (length is ≡ 0 → (pass_at p a).seen ≡ length p.drawn)
      → pass_at (after_all t p (all_draws a is)) a ≡ drew_all (pass_at p a) (length p.drawn) is
  pass_after_all p [] there seen = sym (drew_none (pass_at p a) (length p.drawn) (seen refl))
  pass_after_all p (i ∷ is) there seen =
      let here = pass_after_draw p i there in
      let long = length-append p.drawn (i ∷ []) in
      let known = ap (λ (v : View). v.seen) here in
      pass_after_all (after t p (draw a i)) is (lt-length-set p.passes a _ there) (λ _. omega arith)
      ∙ ((λ k. drew_all (here k) (long k) is) ∙ drew_more (pass_at p a) (length p.drawn) i is)

  -- they can happen if the pass has enough quota left
  all_may : (p : OpenPile) (is : List ℕ) → a < length p.passes
      → length is ≤ (pass_at p a).left → All (λ i. i < sites (grid_of_terms t)) is
      → AllHappen t p (all_draws a is)
  all_may p [] there left inside = tt
  all_may p (i ∷ is) there left inside =
      let here = ap (λ (v : View). v.left) (pass_after_draw p i there) in (
        record { there = there; some_left = omega arith; inside = inside 0 0 (omega arith) },
        all_may (after t p (draw a i)) is (lt-length-set p.passes a _ there)
            (omega arith) (λ k d l. inside (suc k) d (omega arith)),
      )

  -- the step is allowed at any moment
  pub draws_row : (is : List ℕ) (slots : ℕ) (m : Me ℕ View) → 0 < length is
      → length is ≤ m.0.left → All (λ i. i < sites (grid_of_terms t)) is
      → Allows (IsRunning t) slots a m 1 (λ n. (n + length is) % 2 ^ 64) (Takes t a (all_draws a is) m)
  draws_row [] slots m some_drops left inside = absurd (omega arith)
  draws_row (i ∷ is) slots m some_drops left inside =
      takes_row t a 1 (suc (length is)) (draw a i) (all_draws a is) slots m (omega arith)
      (All-map (AddsOne t 1 a) (λ j. draw a j) (i ∷ is) (λ k d l p s terms r may h. shows_draw t p s a _ terms r may h))
      (ap suc (length-map is (λ j. draw a j)))
      (λ x. all_may x.pile (i ∷ is) x.there (let enough = ap (λ (v : View). v.left) x.pass in omega arith) inside)
      (λ p s h. h.number)

-- Places in a row

module _ (t : Terms) (a i : ℕ) where
  pass_after_place : (p : OpenPile) → a < length p.passes
      → pass_at (after t p (place a i)) a ≡ after_laying (pass_at p a) i 1
  pass_after_place p there = pass_at-with p a (after_laying (pass_at p a) i 1) there

  pass_after_places : (p : OpenPile) (k : ℕ) → a < length p.passes
      → pass_at (after_all t p (all_places a i k)) a ≡ record (pass_at p a) { hand = laid_on i k (pass_at p a).hand }
  pass_after_places p zero there = refl
  pass_after_places p (suc k) there =
      pass_after_places (after t p (place a i)) k (lt-length-set p.passes a _ there)
      ∙ ap (λ (v : View). record v { hand = laid_on i k v.hand }) (pass_after_place p there)

  -- they can happen if the hand has k single grains for the site
  all_laid_may : (p : OpenPile) (k : ℕ) → a < length p.passes
      → k ≤ count_by (are_for i 1) (pass_at p a).hand → i < sites (grid_of_terms t)
      → AllHappen t p (all_places a i k)
  all_laid_may p zero there enough inside = tt
  all_laid_may p (suc k) there enough inside =
      let less = count-without i 1 (pass_at p a).hand (omega arith) in
      let left = ap (λ (v : View). count_by (are_for i 1) v.hand) (pass_after_place p there) in (
        record { there = there; in_hand = omega arith; inside = inside },
        all_laid_may (after t p (place a i)) k (lt-length-set p.passes a _ there) (omega arith) inside,
      )

  -- the step is allowed at any moment
  pub places_row : (k slots : ℕ) (m : Me ℕ View) → 0 < k
      → k ≤ count_by (are_for i 1) m.0.hand → i < sites (grid_of_terms t)
      → Allows (IsRunning t) slots a m (i + 2) (λ n. (n + k) % 2 ^ 64) (Takes t a (all_places a i k) m)
  places_row zero slots m some_grains in_hand inside = absurd (omega arith)
  places_row (suc k) slots m some_grains in_hand inside =
      takes_row t a (i + 2) (suc k) (place a i) (all_places a i k) slots m (omega arith)
      (All-replicate (AddsOne t (i + 2) a) (suc k) (place a i)
      (λ p s terms r may h. shows_arrived t p s a i 1 terms r may.there may.in_hand inside h))
      (ap suc (length-replicate k (place a i)))
      (λ x. all_laid_may x.pile (suc k) x.there
      (let enough = ap (λ (v : View). count_by (are_for i 1) v.hand) x.pass in omega arith) inside)
      (λ p s h. h.heights i inside)

  -- the pass is then without these grains
  pub laid_is : (k : ℕ) (v w : View) (n : ℕ) → Happened t a (all_places a i k) v n w
      → w ≡ record v { hand = laid_on i k v.hand }
  laid_is k v w n h = sym h.pass_after ∙ (pass_after_places h.before.pile k h.before.there
      ∙ ap (λ (u : View). record u { hand = laid_on i k u.hand }) h.before.pass)

found_draws : (p : OpenPile) (a n : ℕ) (is : List ℕ) → 0 < length is → Finds p (all_draws a is) n → n ≡ length p.drawn
found_draws p a n [] some_drops found = absurd (omega arith)
found_draws p a n (i ∷ is) some_drops found = found

module _ (t : Terms) (a : ℕ) (is : List ℕ) (v w : View) (n : ℕ)
    (some_drops : 0 < length is) (h : Happened t a (all_draws a is) v n w) where
  number_is : n ≡ length h.before.pile.drawn
  number_is = found_draws h.before.pile a n is some_drops h.number

  pub drew_row_is : w ≡ drew_all v n is
  drew_row_is =
      let p = h.before.pile in
      sym h.pass_after ∙ (pass_after_all t a p is h.before.there (λ none. absurd (omega arith))
      ∙ (λ q. drew_all (h.before.pass q) (sym number_is q) is))

  pub row_fresh : v.seen ≤ n
  row_fresh =
      let seen = (h.before.lawful.passes a nobody h.before.there).seen in
      omega (arith, ap (λ (u : View). u.seen) h.before.pass, number_is)

  pub row_small : n + length is ≤ t.quota
  row_small =
      let p = h.before.pile in
      let few = few_drawn t (after_all t p (all_draws a is))
      (all_keep t p (all_draws a is) h.before.terms h.before.lawful h.may) in
      omega (arith, drawn_long t a p is, number_is)

-- Receipts of consecutive drops

pub below_row : (m n : ℕ) (is : List ℕ) (rs : List Receipt) → m ≤ n → AllBelow m rs
    → AllBelow (n + length is) (rs ++ receipts_from n is)
below_row m n [] rs le below =
    subst (AllBelow (n + 0)) (sym (append-nil rs)) (λ k d l. let b = below k d l in omega arith)
below_row m n (i ∷ is) rs le below =
    let rest = below_row (n + 1) (n + 1) is (rs ++ receipt n i ∷ []) (omega arith) (below_push m n i rs le below) in
    let e : n + 1 + length is ≡ n + suc (length is) = omega arith in
    subst (λ (z : ℕ × List Receipt). AllBelow z.0 z.1)
    (λ q. (e q, append_assoc rs (receipt n i ∷ []) (receipts_from (n + 1) is) q)) rest

pub once_row : (m n : ℕ) (is : List ℕ) (rs : List Receipt) → m ≤ n → AllBelow m rs → EachOnce rs
    → EachOnce (rs ++ receipts_from n is)
once_row m n [] rs le below once = subst EachOnce (sym (append-nil rs)) once
once_row m n (i ∷ is) rs le below once =
    subst EachOnce (append_assoc rs (receipt n i ∷ []) (receipts_from (n + 1) is))
    (once_row (n + 1) (n + 1) is (rs ++ receipt n i ∷ []) (omega arith)
    (below_push m n i rs le below) (once_more m n i rs le below once))
