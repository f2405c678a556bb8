-- A set burns site by site if no part of it is forbidden: while some sites are left, one of them may burn.
use Rattle.std.proofs.Common.{ℕ, zero, suc, Bool, true, false, not, cond, eqb, ltb, ◌≡◌, ◌+◌, ◌*◌, ◌<◌, ◌≤◌, ◌||◌, inl, inr, ap, arith, count_by}
use Rattle.std.proofs.lemmas.Bool.{cases_Bool}
use Rattle.std.proofs.lemmas.Bool.Decides.{nat_tests}
use Rattle.sand_model.specs.Grid.{Grid, sites, neighbours}
use Rattle.sand_model.specs.Sand.{sum_below, one_at}
use Rattle.sand_model.specs.Forbidden.{IsForbidden}
use Rattle.sand_model.proofs.SumsBelow.{sum_below_both, sum_below-one_at}
use Rattle.sand_model.proofs.Flow.{indicator}
use Rattle.sand_model.proofs.Lists.{all_or_one}

-- a set without one of its sites
abbrev pub without : (ℕ → Bool) → ℕ → ℕ → Bool
without set i j = cond (eqb i j) false (set j)

pub without_one : (set : ℕ → Bool) (i j : ℕ) → set i ≡ true → indicator set j ≡ indicator (without set i) j + one_at i j
without_one set i j here = let same = ap set {x = i} {y = j} in grind (arith, nat_tests, cases_Bool (set j))

pub one_less : (g : Grid) (set : ℕ → Bool) (i : ℕ) → i < sites g → set i ≡ true
    → sum_below (sites g) (indicator set) ≡ sum_below (sites g) (indicator (without set i)) + 1
one_less g set i l here = omega (
  arith,
  sum_below_both (sites g) (indicator (without set i)) (λ j. 1 * one_at i j) (indicator set)
      (λ j m. omega (arith, without_one set i j here)),
  sum_below-one_at (sites g) i (λ j. 1) l,
)

-- a site of a set that is not forbidden has a height of at least the number of its neighbours in the set
some_burns : (g : Grid) (t : ℕ → ℕ) (set : ℕ → Bool) → (IsForbidden g t set → ⊥)
    → (i : ℕ) × (i < sites g) × (set i ≡ true)
    → (i : ℕ) × (i < sites g) × (set i ≡ true) × (count_by set (neighbours g i) ≤ t i)
some_burns g t set free some =
    elim (all_or_one (sites g) (λ i. not (set i) || ltb (t i) (count_by set (neighbours g i)))) [
      | inl stuck ↦ absurd (free (record { some = some; low = λ i l here. grind (arith, nat_tests, stuck i l) }))
      | inr one ↦
          let member = cases_Bool (set one.0) in
          let burns = one.2 in
          (one.0, one.1, grind (arith, nat_tests), grind (arith, nat_tests))
    ]

-- what is true of the empty set, and of a set if it is true of the set without a site that may burn first
pub one_by_one : (g : Grid) (t : ℕ → ℕ) (P : (ℕ → Bool) → Type 0)
    → ((set : ℕ → Bool) → ((i : ℕ) → i < sites g → set i ≡ false) → P set)
    → ((set : ℕ → Bool) (i : ℕ) → i < sites g → set i ≡ true → count_by set (neighbours g i) ≤ t i
    → P (without set i) → P set)
    → (n : ℕ) (set : ℕ → Bool) → sum_below (sites g) (indicator set) ≤ n
    → ((part : ℕ → Bool) → IsForbidden g t part → ((i : ℕ) → i < sites g → part i ≡ true → set i ≡ true) → ⊥)
    → P set
one_by_one g t P none more zero set few free =
    none set (λ i l. grind (arith, cases_Bool (set i), one_less g set i l))
one_by_one g t P none more (suc n) set few free = elim (all_or_one (sites g) (λ i. not (set i))) [
  | inl all ↦ none set (λ i l. grind (arith, nat_tests, cases_Bool (set i), all i l))
  | inr one ↦
      let first = some_burns g t set (λ bad. free set bad (λ i l here. here))
      (one.0, one.1, grind (arith, nat_tests, cases_Bool (set one.0), one.2)) in
      more set first.0 first.1 first.2 first.3
      (one_by_one g t P none more n (without set first.0) (omega (arith, one_less g set first.0 first.1 first.2))
      (λ part bad within. free part bad (λ i l here. grind (arith, nat_tests, within i l here))))
]
