-- Each pile settles: while a site may topple, a toppling lowers the weight, and the counts never exceed the least
-- odometer.
use Rattle.sand_model.proofs.Common.{ℕ, zero, suc, leb, ◌+◌, ◌-◌, ◌*◌, ◌<◌, ◌≤◌, ◌⊎◌, inl, inr, refl, arith, leb-true, leb-false, nat_tests, Grid, sites, flow, one_at, IsToppled, IsUnderway, IsSettled, weight}
use Rattle.sand_model.proofs.Flow.{flow-scale}
use Rattle.sand_model.proofs.Sandpile.{one_lighter}
use Rattle.sand_model.proofs.Underway.{underway_start, underway_step, underway_end}
use Rattle.sand_model.proofs.Lists.{all_or_one}

-- a site may topple, or none may
high_site : (n : ℕ) (t : ℕ → ℕ) → ((i : ℕ) × (i < n) × (4 ≤ t i)) ⊎ ((i : ℕ) → i < n → t i ≤ 3)
high_site n t = elim (all_or_one n (λ i. leb (t i) 3)) [
  | inl low ↦ inr (λ i l. leb-true (t i) 3 (low i l))
  | inr one ↦ inl (one.0, one.1, leb-false (t one.0) 3 one.2)
]

-- the heights after one toppling of site k
after : Grid → (ℕ → ℕ) → ℕ → ℕ → ℕ
after g t k i = t i + flow g (one_at k) i - 4 * one_at k i

after_toppled : (g : Grid) (t : ℕ → ℕ) (k : ℕ) → 4 ≤ t k → IsToppled g t (one_at k) (after g t k)
unfolding after
after_toppled g t k high = record { balance = λ i l. grind (arith, nat_tests) }

one_more : (g : Grid) (s u t : ℕ → ℕ) (k : ℕ) → k < sites g → 4 ≤ t k → IsUnderway g s u t
    → IsUnderway g s (λ i. u i + one_at k i) (after g t k)
one_more g s u t k inside high way =
    underway_step g s u t (λ i. u i + one_at k i) (after g t k) k 1 inside (omega arith) way (λ j l. omega arith)
    (record { balance = λ j l. omega (arith, (after_toppled g t k high).balance j l, flow-scale g 1 (one_at k) j) })

-- by induction on a bound of the weight, which each toppling lowers
settles_from : (n : ℕ) (g : Grid) (s u t : ℕ → ℕ) → weight g t ≤ n → IsUnderway g s u t
    → (v : ℕ → ℕ) × (r : ℕ → ℕ) × IsSettled g s v r
settles_from zero g s u t l way = elim (high_site (sites g) t) [
  | inl high ↦ absurd (omega (
    arith,
    one_lighter g t (after g t high.0) high.0 high.1 (after_toppled g t high.0 high.2),
  ))
  | inr low ↦ (u, t, underway_end g s u t way low)
]
settles_from (suc n) g s u t l way = elim (high_site (sites g) t) [
  | inl high ↦
      let lighter = one_lighter g t (after g t high.0) high.0 high.1 (after_toppled g t high.0 high.2) in
      settles_from n g s (λ i. u i + one_at high.0 i) (after g t high.0)
      (omega arith) (one_more g s u t high.0 high.1 high.2 way)
  | inr low ↦ (u, t, underway_end g s u t way low)
]

pub settles : (g : Grid) (s : ℕ → ℕ) → (u : ℕ → ℕ) × (t : ℕ → ℕ) × IsSettled g s u t
settles g s = settles_from (weight g s) g s (λ i. 0) s (omega arith) (underway_start g s (λ i. 0) (λ i l. refl))
