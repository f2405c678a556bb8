-- A hand after grains are laid, in any order. The grains of a list are counted by site and laid by site.
use Rattle.sand_shared.proofs.Common.{◌≡◌, ℕ, zero, suc, ◌+◌, ◌<◌, ◌≤◌, List, [], ◌∷◌, All, true, false, ap, ◌∙◌, ⊎_elim, arith, ◌≢◌, eqb, take, length, set, get_or, sym, refl, count_by, slice_index, cases_Bool, nat_tests, All-cons, All-nil, sum_by-cons, sum_by_more, count_by-le-length, one_if, Grains, amount_at, held, grains_for, behind_first, are_for, without, zeros, one_for_each, ext_get_or, get_or-replicate, get_or_read, get_or-set_same, length-replicate, length-set, length-take, occurrences, one_at, counted, get_or-written, occurrences-cons}
use Rattle.sand_shared.proofs.GrainsAtSite.{held-cons, amount_here, amount_is}
use Rattle.sand_shared.proofs.SumsOverPasses.{sum_by-map}
use Rattle.sand_shared.proofs.ReceiptsTellHistory.{one_if_other}

module _ (i k : ℕ) where
  count-cons : (g : Grains) (gs : List Grains)
      → count_by (are_for i k) (g ∷ gs) ≡ one_if (are_for i k g) + count_by (are_for i k) gs
  count-cons g gs = sum_by-cons (λ (x : Grains). one_if (are_for i k x)) g gs

  without-here : (g : Grains) (gs : List Grains) → are_for i k g ≡ true → without i k (g ∷ gs) ≡ gs
  without-here g gs e = rw e

  without-else : (g : Grains) (gs : List Grains) → are_for i k g ≡ false → without i k (g ∷ gs) ≡ g ∷ without i k gs
  without-else g gs e = rw e

  same_grains : (g : Grains) (j : ℕ) → are_for i k g ≡ true → amount_at g.site g.amount j ≡ amount_at i k j
  same_grains g j e = grind (arith, nat_tests)

  -- the laid grains were in hand for their site
  pub held-without : (hand : List Grains) (j : ℕ) → 0 < count_by (are_for i k) hand
      → held hand j ≡ amount_at i k j + held (without i k hand) j
  held-without [] j some_there = absurd (omega arith)
  held-without (g ∷ gs) j some_there = grind (
    arith,
    nat_tests,
    held-cons g gs j,
    held-cons g (without i k gs) j,
    count-cons g gs,
    same_grains g j,
    without-here g gs,
    without-else g gs,
    held-without gs j,
  )

  -- there is one entry less
  pub count-without : (hand : List Grains) → 0 < count_by (are_for i k) hand
      → count_by (are_for i k) (without i k hand) + 1 ≡ count_by (are_for i k) hand
  count-without [] some_there = absurd (omega arith)
  count-without (g ∷ gs) some_there = grind (
    arith,
    nat_tests,
    count-cons g gs,
    count-cons g (without i k gs),
    without-here g gs,
    without-else g gs,
    count-without gs,
  )

  all_without : (P : Grains → Type 0) (hand : List Grains) → All P hand → All P (without i k hand)
  all_without P [] all = all
  all_without P (g ∷ gs) all =
      let tail : All P gs = λ m d l. all (suc m) d (omega arith) in
      ⊎_elim
      (λ (e : are_for i k g ≡ true). rw (without-here g gs e) tail)
      (λ (e : are_for i k g ≡ false).
      rw (without-else g gs e) (All-cons P g (without i k gs) (all 0 g (omega arith)) (all_without P gs tail)))
      (cases_Bool (are_for i k g))

  are_first : are_for i k (grains_for i k) ≡ true
  are_first = grind (arith, nat_tests)

  pub first_counts : (hand : List Grains) → hand ≡ grains_for i k ∷ behind_first hand → 0 < count_by (are_for i k) hand
  first_counts hand first =
      let count = ap (count_by (are_for i k)) first ∙ count-cons (grains_for i k) (behind_first hand) in
      let one = ap one_if are_first in omega arith

-- a hand after n single grains are laid on the site i
abbrev pub laid_on : ℕ → ℕ → List Grains → List Grains
laid_on i zero hand = hand
laid_on i (suc c) hand = laid_on i c (without i 1 hand)

module _ (i : ℕ) where
  more_at : (c j : ℕ) → amount_at i (suc c) j ≡ amount_at i 1 j + amount_at i c j
  more_at c j = grind (arith, nat_tests)

  none_at : (j : ℕ) → amount_at i 0 j ≡ 0
  none_at j = grind (arith, nat_tests)

  pub held-laid : (c : ℕ) (hand : List Grains) (j : ℕ) → c ≤ count_by (are_for i 1) hand
      → held hand j ≡ amount_at i c j + held (laid_on i c hand) j
  held-laid zero hand j enough = let z = none_at j in omega arith
  held-laid (suc c) hand j enough =
      let less = count-without i 1 hand (omega arith) in
      omega (arith, held-without i 1 hand j (omega arith), held-laid c (without i 1 hand) j (omega arith), more_at c j)

  pub all_laid : (P : Grains → Type 0) (c : ℕ) (hand : List Grains) → All P hand → All P (laid_on i c hand)
  all_laid P zero hand all = all
  all_laid P (suc c) hand all = all_laid P c (without i 1 hand) (all_without i 1 P hand all)

  pub last_laid : laid_on i 1 (grains_for i 1 ∷ []) ≡ []
  last_laid = without-here i 1 (grains_for i 1) [] (are_first i 1)

-- an entry of the list finds the count of its site
pub read_count : (n k c : ℕ) (counts drops : List ℕ)
    → length counts ≡ n → All (λ i. i < n) drops
    → k < length drops → c ≡ get_or counts (get_or drops k 0) c
    → c ≡ slice_index counts (get_or drops k 0)
read_count n k c counts drops long inside below read =
    let here = inside k 0 below in
    get_or_read counts (get_or drops k 0) c (omega arith) read 0

-- one more entry is counted
pub counted_more : (n k : ℕ) (counts drops : List ℕ)
    → k < length drops → get_or drops k 0 < length counts
    → ((i : ℕ) → i < n → slice_index counts i ≡ occurrences (take k drops) i)
    → (i : ℕ) → i < n
    → slice_index (set counts (get_or drops k 0) (slice_index counts (get_or drops k 0) + 1)) i
    ≡ occurrences (take (k + 1) drops) i
counted_more n k counts drops inside there so_far i l =
    let x = get_or drops k 0 in
    let before = so_far i l in
    let new = counted x 1 counts (set counts x (slice_index counts x + 1)) there refl i in
    let next = sum_by_more (λ y. one_at y i) drops k 0 inside in omega arith

pub occurrences_small : (k : ℕ) (drops : List ℕ) (i : ℕ) → k < length drops → occurrences (take k drops) i ≤ k
occurrences_small k drops i inside =
    let few = count_by-le-length (λ j. eqb j i) (take k drops) in
    omega (arith, length-take k drops)

-- The grains in hand are single, and the counts say how many of them are for each site that is still to come.
pub record Waits (n : ℕ) (counts : List ℕ) (hand : List Grains) (coming : List ℕ) : Type 0 where
  pub len : length counts ≡ n
  pub single : All (λ g. (g.site < n) × (g.amount ≡ 1)) hand
  pub counted : (i : ℕ) → i < n → slice_index counts i ≡ held hand i
  pub come : (i : ℕ) → i < n → 0 < slice_index counts i → 0 < occurrences coming i

module _ (n : ℕ) where
  all_single : (is : List ℕ) → All (λ i. i < n) is
      → All (λ (g : Grains). (g.site < n) × (g.amount ≡ 1)) (one_for_each is)
  all_single [] inside = All-nil (λ (g : Grains). (g.site < n) × (g.amount ≡ 1))
  all_single (i ∷ is) inside =
      All-cons (λ (g : Grains). (g.site < n) × (g.amount ≡ 1)) (grains_for i 1) (one_for_each is)
      (inside 0 0 (omega arith), refl) (all_single is (λ k d l. inside (suc k) d (omega arith)))

  held-one_for_each : (is : List ℕ) (j : ℕ) → held (one_for_each is) j ≡ occurrences is j
  held-one_for_each is j = sum_by-map (λ (g : Grains). amount_at g.site g.amount j) (λ i. grains_for i 1) is

  -- single grains for a site are as many as their entries
  pub count_is : (i : ℕ) (hand : List Grains) → All (λ g. (g.site < n) × (g.amount ≡ 1)) hand
      → count_by (are_for i 1) hand ≡ held hand i
  count_is i [] single = refl
  count_is i (g ∷ gs) single =
      let all = held-cons g gs i in
      let count = sum_by-cons (λ (x : Grains). one_if (are_for i 1 x)) g gs in
      omega (arith, count_is i gs (λ k d l. single (suc k) d (omega arith)), here (single 0 g (omega arith)).1)
    where
      here : g.amount ≡ 1 → one_if (are_for i 1 g) ≡ amount_at g.site g.amount i
      here e = grind (arith, nat_tests)

  pub waits_all : (counts drops : List ℕ)
      → length counts ≡ n → All (λ i. i < n) drops
      → ((i : ℕ) → i < n → slice_index counts i ≡ occurrences drops i)
      → Waits n counts (one_for_each drops) drops
  waits_all counts drops long inside counted = record {
    len = long;
    single = all_single drops inside;
    counted = λ i l. counted i l ∙ sym (held-one_for_each drops i);
    come = λ i l some_there. (let e = counted i l in omega arith);
  }

  module _ (x : ℕ) (coming : List ℕ) where
    come_else : (i : ℕ) → x ≢ i → 0 < occurrences (x ∷ coming) i → 0 < occurrences coming i
    come_else i ne some_there = let all = occurrences-cons x coming i in let none = one_if_other x i ne in omega arith

    -- the grains of this site were laid earlier
    pub waits_past : (counts : List ℕ) (hand : List Grains)
        → slice_index counts x ≡ 0 → Waits n counts hand (x ∷ coming)
        → Waits n counts hand coming
    waits_past counts hand none w = record {
      len = w.len;
      single = w.single;
      counted = w.counted;
      come = λ i l some_there.
          come_else i (λ e. let same = ap (slice_index counts) e in absurd (omega arith)) (w.come i l some_there);
    }

    -- they are laid now
    pub waits_laid : (counts : List ℕ) (hand : List Grains) → x < n → Waits n counts hand (x ∷ coming)
        → Waits n (set counts x 0) (laid_on x (slice_index counts x) hand) coming
    waits_laid counts hand inside w =
        let c = slice_index counts x in
        let all = w.counted x inside in
        let same = count_is x hand w.single in
        let gone = λ (i : ℕ). held-laid x c hand i (omega arith) in
        let new = λ (i : ℕ). get_or-written counts x 0 i (omega arith) in
        record {
          len = length-set counts x 0 ∙ w.len;
          single = all_laid x (λ g. (g.site < n) × (g.amount ≡ 1)) c hand w.single;
          counted = λ i l. omega (arith, new i, amount_is x c i, w.counted i l, gone i);
          come = λ i l some_there.
              let a = new i in
              come_else i (λ e.
              let b = ap (slice_index (set counts x 0)) e in
              let z = get_or-set_same counts x 0 0 (omega arith) in absurd (omega arith))
              (w.come i l (omega arith));
        }

  none_counted : (counts : List ℕ) (hand : List Grains) → Waits n counts hand [] → (i : ℕ) → i < n
      → slice_index counts i ≡ 0
  none_counted counts hand w i l = grind (arith, w.come i l)

  pub hand_empty : (counts : List ℕ) (hand : List Grains) → Waits n counts hand [] → hand ≡ []
  hand_empty counts [] w = refl
  hand_empty counts (g ∷ gs) w =
      let one = w.single 0 g (omega arith) in
      let here = amount_here g.site g.amount g.site refl in
      let all = held-cons g gs g.site in
      let none = none_counted counts (g ∷ gs) w g.site one.0 in
      let same = w.counted g.site one.0 in
      absurd (omega arith)

  pub counts_zero : (counts : List ℕ) (hand : List Grains) → Waits n counts hand [] → counts ≡ zeros n
  counts_zero counts hand w =
      ext_get_or 0 counts (zeros n) (w.len ∙ sym (length-replicate n 0))
      (λ i l. none_counted counts hand w i (omega arith) ∙ sym (get_or-replicate n i 0 0 (omega arith)))
