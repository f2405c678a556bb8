-- Topplings settle the pile if they leave at most 3 at each site, and no forbidden set of sites that have toppled.
use Rattle.sand_model.proofs.Common.{ℕ, zero, suc, cond, eqb, ◌≡◌, ◌+◌, ◌-◌, ◌*◌, ◌<◌, ◌≤◌, inl, inr, refl, ap, arith, ⊎_elim, cases_eq, cases_lt, eq-eqb, eqb-true, nat_tests, mul-le-mul_left, Grid, sites, flow, IsStable, IsToppled, Stabilises, IsSettled}
use Rattle.sand_model.specs.Forbidden.{IsForbidden, IsTight}
use Rattle.sand_model.proofs.Flow.{flow_le, flow_same, flow-add, flow-scale, count_is_flow}
use Rattle.sand_model.proofs.Sandpile.{flow_ones}

-- a place where p is greatest
pub greatest : (n : ℕ) (p : ℕ → ℕ) → 0 < n → (k : ℕ) × (k < n) × ((i : ℕ) → i < n → p i ≤ p k)
greatest zero p l = absurd (omega arith)
greatest (suc zero) p l = (0, omega arith, λ i m. let e : i ≡ 0 = omega arith in omega (arith, ap p e))
greatest (suc (suc n)) p l =
    let before = greatest (suc n) p (omega arith) in
    elim (cases_lt (p before.0) (p (suc n))) [
      | inl less ↦ (suc n, omega arith, λ i m. grind (arith, before.2 i, cases_eq i (suc n)))
      | inr more ↦ (before.0, omega (arith, before.1), λ i m. grind (arith, before.2 i, cases_eq i (suc n)))
    ]

-- if sites toppled p times too often or q times too rarely, the sites of the greatest p are forbidden
pub top_is_forbidden : (g : Grid) (t p q : ℕ → ℕ) (k : ℕ)
    → ((i : ℕ) → i < sites g → t i + 4 * p i + flow g q i ≤ 3 + 4 * q i + flow g p i)
    → ((i : ℕ) → 0 < p i → q i ≡ 0) → k < sites g
    → ((i : ℕ) → i < sites g → p i ≤ p k) → 0 < p k
    → IsForbidden g t (λ i. eqb (p i) (p k))
top_is_forbidden g t p q k balance apart inside top some = record {
  some = (k, inside, eq-eqb (p k) (p k) refl);
  low = λ i l in'.
      let at : p i ≡ p k = eqb-true (p i) (p k) in' in
      let none = apart i (omega arith) in
      let e = balance i l in
      let most = flow_le g p (λ j. (p k - 1) * 1 + cond (eqb (p j) (p k)) 1 0)
      (λ j m. grind (arith, nat_tests, top j m)) i l in
      let split = flow-add g (λ j. (p k - 1) * 1) (λ j. cond (eqb (p j) (p k)) 1 0) i in
      let scaled = flow-scale g (p k - 1) (λ j. 1) i in
      let four = flow_ones g i in
      let deg : flow g (λ j. 1) i ≤ 4 = omega arith in
      let product = mul-le-mul_left (p k - 1) deg in
      rw (count_is_flow g (λ j. eqb (p j) (p k)) i) (omega arith);
}

-- the balance, by how much u is above w and below it
excess : (g : Grid) (s u w t : ℕ → ℕ) → IsToppled g s u t → Stabilises g s w → (i : ℕ) → i < sites g
    → t i + 4 * (u i - w i) + flow g (λ j. w j - u j) i ≤ 3 + 4 * (w i - u i) + flow g (λ j. u j - w j) i
excess g s u w t done stable i l = omega (
  arith,
  done.balance i l,
  stable.at_most_three i l,
  flow-add g u (λ j. w j - u j) i,
  flow-add g w (λ j. u j - w j) i,
  flow_same g (λ j. u j + (w j - u j)) (λ j. w j + (u j - w j)) (λ j m. omega arith) i l,
)

-- the sites where u is most above w would be forbidden, and all have toppled
never_above : (g : Grid) (s u w t : ℕ → ℕ) → IsToppled g s u t
    → IsTight g t u → Stabilises g s w → (i : ℕ) → i < sites g → u i ≤ w i
never_above g s u w t done tight stable i l =
    let top = greatest (sites g) (λ j. u j - w j) (omega arith) in
    let le = top.2 i l in
    ⊎_elim
    (λ (some : 0 < u top.0 - w top.0).
    absurd (tight.none (λ j. eqb (u j - w j) (u top.0 - w top.0))
    (top_is_forbidden g t (λ j. u j - w j) (λ j. w j - u j) top.0
    (excess g s u w t done stable) (λ j m. omega arith) top.1 top.2 some)
    (λ j m in'. let at : u j - w j ≡ u top.0 - w top.0 = eqb-true (u j - w j) (u top.0 - w top.0) in' in omega arith)))
    (λ (none : u top.0 - w top.0 ≤ 0). omega arith)
    (cases_lt 0 (u top.0 - w top.0))

pub settled_if_tight : (g : Grid) (s u t : ℕ → ℕ) → IsToppled g s u t → IsStable g t → IsTight g t u → IsSettled g s u t
settled_if_tight g s u t done low tight = record {
  toppled = done;
  odometer = record {
    stabilises = record { at_most_three = λ i l. omega (arith, done.balance i l, low.low i l) };
    least = λ w stable. never_above g s u w t done tight stable;
  };
}
