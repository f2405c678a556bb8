-- Depths in layers are burning times, and each recurrent pile has burning times.
use Rattle.sand_trees.proofs.Common.{ℕ, zero, suc, Bool, true, false, not, cond, ltb, leb, ◌≡◌, ◌+◌, ◌-◌, ◌<◌, ◌≤◌, inl, inr, refl, ◌∙◌, ap, subst, arith, count_by, cases_Bool, cases_eq, cases_lt, nat_tests, Grid, sites, neighbours, sum_below, at_most_sum_below, all_or_one, IsRecurrent}
use Rattle.sand_model.proofs.NeighboursInSets.{count_within}
use Rattle.sand_certify.proofs.OneByOne.{without, one_by_one}
use Rattle.sand_group.specs.BurningTimes.{burns_within, is_time_within, AreBurningTimes}
use Rattle.sand_group.proofs.BurningSteps.{count_same, burns_next}
use Rattle.sand_trees.specs.Trees.{edges_below}
use Rattle.sand_trees.specs.Depths.{AreLayers}
use Rattle.sand_trees.proofs.Edges.{apart, all_four, edges_more, edges_below_none}

-- ---- layers and times

-- a site's neighbours that are not below a depth, and its edges that are, are four together
not_below : (g : Grid) (d : ℕ → ℕ) (i t : ℕ) → i < sites g
    → count_by (λ j. not (ltb (d j) (suc t))) (neighbours g i) + edges_below g d i (suc t) ≡ 4
not_below g d i t l = omega (
  arith,
  apart g (λ j. not (ltb (d j) (suc t))) d (suc t) (λ j m far. grind (arith, nat_tests)) i l,
  all_four g (λ j. not (ltb (d j) (suc t))) d (suc t) (omega arith) (λ j m late. grind (arith, nat_tests)) i l,
)

-- who burns within one step more, counted by edges
burns_by_edges : (g : Grid) (s d : ℕ → ℕ) (t : ℕ) → ((j : ℕ) → j < sites g → 0 < d j)
    → ((j : ℕ) → j < sites g → burns_within g s t j ≡ is_time_within t (d j)) → (i : ℕ) → i < sites g
    → burns_within g s (suc t) i ≡ leb 4 (s i + edges_below g d i (suc t))
burns_by_edges g s d t some times i l =
    let same = count_same g (λ j. not (burns_within g s t j)) (λ j. not (ltb (d j) (suc t)))
    (λ j m. grind (arith, nat_tests, times j m, some j m)) i l in
    let four = not_below g d i t l in
    let next = burns_next g s t i in
    grind (arith, nat_tests)

-- step by step, the sites of depth at most t are those that burn within t steps
within : (g : Grid) (s d : ℕ → ℕ) → AreLayers g s d → ((j : ℕ) → j < sites g → 0 < d j) → (t i : ℕ) → i < sites g
    → burns_within g s t i ≡ is_time_within t (d i)
unfolding burns_within
within g s d layers some zero i l = grind (arith, nat_tests, some i l)
within g s d layers some (suc t) i l =
    let next = burns_by_edges g s d t some (within g s d layers some t) i l in
    let burns = layers.burns i l in
    let before = layers.not_before i l (suc t) in
    let more = edges_more g d i (d i) (suc t) in
    grind (arith, nat_tests, some i l, cases_lt (suc t) (d i))

pub times_of_layers : (g : Grid) (s d : ℕ → ℕ) → AreLayers g s d → ((j : ℕ) → j < sites g → 0 < d j)
    → AreBurningTimes g s d
times_of_layers g s d layers some = record { each = λ i l t. within g s d layers some t i l }

-- a site that burns in a step may burn then, and might not before
burns_at : (g : Grid) (s d : ℕ → ℕ) → AreBurningTimes g s d → ((j : ℕ) → j < sites g → 0 < d j) → (t i : ℕ) → i < sites g
    → d i ≡ suc t → 4 ≤ s i + edges_below g d i (suc t)
burns_at g s d times some t i l e =
    let next = burns_by_edges g s d t some (λ j m. times.each j m t) i l in
    let now = times.each i l (suc t) in
    grind (arith, nat_tests)

not_at : (g : Grid) (s d : ℕ → ℕ) → AreBurningTimes g s d → ((j : ℕ) → j < sites g → 0 < d j)
    → ((j : ℕ) → j < sites g → s j ≤ 3) → (t i : ℕ) → i < sites g → t < d i → s i + edges_below g d i t < 4
not_at g s d times some low zero i l early = omega (arith, low i l, edges_below_none g d i)
not_at g s d times some low (suc t) i l early =
    let next = burns_by_edges g s d t some (λ j m. times.each j m t) i l in
    let now = times.each i l (suc t) in
    grind (arith, nat_tests)

-- all sites of a recurrent pile burn
pub all_burn : (g : Grid) (s d : ℕ → ℕ) → AreBurningTimes g s d → IsRecurrent g s → (i : ℕ) → i < sites g → 0 < d i
all_burn g s d times recurrent i l = elim (all_or_one (sites g) (λ j. ltb 0 (d j))) [
  | inl all ↦ let in' = all i l in grind (arith, nat_tests)
  | inr one ↦ absurd (recurrent.none (λ j. not (ltb 0 (d j))) (record {
    some = (one.0, one.1, ap not one.2);
    low = λ j m in'.
        let last = sum_below (sites g) d in
        let never = times.each j m (suc last) in
        let next = burns_next g s last j in
        let same = count_same g (λ k. not (burns_within g s last k)) (λ k. not (ltb 0 (d k)))
        (λ k n. grind (arith, nat_tests, times.each k n last, at_most_sum_below (sites g) d k n)) j m in
        grind (arith, nat_tests);
  }))
]

pub layers_of_times : (g : Grid) (s d : ℕ → ℕ) → AreBurningTimes g s d → IsRecurrent g s → AreLayers g s d
layers_of_times g s d times recurrent =
    let some = all_burn g s d times recurrent in
    record {
      burns = λ i l.
          let e : d i ≡ suc (d i - 1) = omega (arith, some i l) in
          let high = burns_at g s d times some (d i - 1) i l e in
          let same = ap (edges_below g d i) e in
          omega arith;
      not_before = λ i l t early high.
          omega (arith, not_at g s d times some (λ j m. recurrent.stable.low j m) t i l early);
    }

-- ---- each recurrent pile has burning times

-- what has burnt stays burnt
one_more : (g : Grid) (s : ℕ → ℕ) (t i : ℕ) → i < sites g → burns_within g s t i ≡ true
    → burns_within g s (suc t) i ≡ true
unfolding burns_within
one_more g s zero i l burnt = absurd cc
one_more g s (suc t) i l burnt =
    let fewer = count_within g (λ j. not (burns_within g s (suc t) j)) (λ j. not (burns_within g s t j)) i l
    (λ j m out. grind (arith, cases_Bool (burns_within g s t j), one_more g s t j m)) in
    let next = burns_next g s (suc t) i in
    let last = burns_next g s t i in
    grind (arith, nat_tests)

more_later : (g : Grid) (s : ℕ → ℕ) (i : ℕ) → i < sites g → (k t : ℕ) → burns_within g s t i ≡ true
    → burns_within g s (k + t) i ≡ true
more_later g s i l zero t burnt = ap (λ n. burns_within g s n i) (omega arith) ∙ burnt
more_later g s i l (suc k) t burnt =
    let step : suc k + t ≡ suc (k + t) = omega arith in
    ap (λ n. burns_within g s n i) step ∙ one_more g s (k + t) i l (more_later g s i l k t burnt)

later : (g : Grid) (s : ℕ → ℕ) (i : ℕ) → i < sites g → (t u : ℕ) → t ≤ u → burns_within g s t i ≡ true
    → burns_within g s u i ≡ true
later g s i l t u le burnt = ap (λ n. burns_within g s n i) (omega arith) ∙ more_later g s i l (u - t) t burnt

-- if all sites outside a set burn within some steps, then all sites do
abbrev BurnsOut : Grid → (ℕ → ℕ) → (ℕ → Bool) → Type 0
BurnsOut g s set = (t : ℕ) → ((i : ℕ) → i < sites g → set i ≡ false → burns_within g s t i ≡ true)
    → (n : ℕ) × ((i : ℕ) → i < sites g → burns_within g s n i ≡ true)

-- a site of the set that may burn first burns one step after the others outside it
one_first : (g : Grid) (s : ℕ → ℕ) (set : ℕ → Bool) (i : ℕ) → i < sites g → set i ≡ true
    → count_by set (neighbours g i) ≤ s i → BurnsOut g s (without set i) → BurnsOut g s set
one_first g s set i l here high rest t out = rest (suc t) (λ j m gone. elim (cases_eq i j) [
  | inl e ↦
      let fewer = count_within g (λ k. not (burns_within g s t k)) set i l
      (λ k n left. grind (arith, cases_Bool (set k), out k n)) in
      let next = burns_next g s t i in
      subst (λ k. burns_within g s (suc t) k ≡ true) e (grind (arith, nat_tests))
  | inr ne ↦ one_more g s t j m (out j m (grind (arith, nat_tests)))
])

-- all sites of a recurrent pile burn within some steps, since they burn one by one
all_within : (g : Grid) (s : ℕ → ℕ) → IsRecurrent g s
    → (n : ℕ) × ((i : ℕ) → i < sites g → burns_within g s n i ≡ true)
all_within g s recurrent =
    one_by_one g s (BurnsOut g s) (λ set none t out. (t, λ i l. out i l (none i l))) (one_first g s)
    (sum_below (sites g) (λ i. 1)) (λ i. true) (omega arith) (λ part bad within'. recurrent.none part bad)
    0 (λ i l out. absurd cc)

-- the first number that passes, if n does and a number passes after one that does
first : (ℕ → Bool) → ℕ → ℕ
first p zero = 0
first p (suc n) = cond (p n) (first p n) (suc n)

first_is : (p : ℕ → Bool) → ((t u : ℕ) → t ≤ u → p t ≡ true → p u ≡ true) → (n : ℕ) → p n ≡ true
    → (t : ℕ) → p t ≡ leb (first p n) t
unfolding first
first_is p on zero passes t = let yes' = on 0 t (omega arith) passes in grind (arith, nat_tests)
first_is p on (suc n) passes t = elim (cases_Bool (p n)) [
  | inl here ↦ rw here (first_is p on n here t)
  | inr below ↦ rw below (grind (arith, nat_tests, cases_Bool (p t), on t n, on (suc n) t, cases_lt t (suc n)))
]

pub times_exist : (g : Grid) (s : ℕ → ℕ) → IsRecurrent g s → (d : ℕ → ℕ) × AreBurningTimes g s d
unfolding burns_within
times_exist g s recurrent =
    let all = all_within g s recurrent in (
      λ i. first (λ t. burns_within g s t i) all.0,
      record {
        each = λ i l t.
            let is = first_is (λ u. burns_within g s u i) (later g s i l) all.0 (all.1 i l) in
            let begins : burns_within g s 0 i ≡ false = refl in
            grind (arith, nat_tests, is t, is 0);
      },
    )
