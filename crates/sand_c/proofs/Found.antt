-- The sites that burning finds, and how many there are.
use Rattle.sand_c.proofs.Common.{◌≡◌, ◌<◌, ◌≤◌, ◌+◌, ◌-◌, ℕ, Bool, zero, suc, List, length, refl, sym, subst, ◌∙◌, arith, inl, inr, slice_index, ◌↔◌, Result, Ok, Err, cases_lt, take_all, Grid, sites, PileView, height_of, Fault}
use Rattle.std.specs.List.Sorted.{IsStrictlyIncreasing}
use Rattle.sand_model.specs.Sand.{IsStable, sum_below, occurrences}
use Rattle.sand_model.proofs.Occurrences.{sum_below-occurrences}
use Rattle.sand_group.specs.declared.faults.GroupFault.{GroupFault}
use Rattle.sand_group.specs.declared.faults.GroupFault.TheVariants as group
use Rattle.sand_group.specs.Recurrence.{IsBurningOrder, IsGreatestForbidden}
use Rattle.sand_group.proofs.WhyRefused.{stable}
use Rattle.sand_c.specs.Burning.{IsFound, IsBurning}

ones : (n : ℕ) (f : ℕ → ℕ) → ((i : ℕ) → i < n → f i ≡ 1) → sum_below n f ≡ n
unfolding sum_below
ones zero f each = refl
ones (suc n) f each =
    let below = ones n f (λ i lt. each i (omega arith)) in
    let last = each n (omega arith) in
    omega arith

rises : (xs : List ℕ) → IsStrictlyIncreasing xs → (k : ℕ) → k < length xs → k ≤ slice_index xs k
rises xs up zero lt = omega arith
rises xs up (suc k) lt =
    let before = rises xs up k (omega arith) in
    let step = up k (omega arith) in
    let one : suc k ≡ k + 1 = omega arith in
    rw one (omega arith)

-- a burning order has as many sites as the grid
pub order_fits : (g : Grid) (s : ℕ → ℕ) (order : List ℕ) → IsBurningOrder g s order → length order ≡ sites g
order_fits g s order is =
    sym (sum_below-occurrences (sites g) order is.only_sites) ∙ ones (sites g) (occurrences order) is.each_once

-- a forbidden set has at most as many
pub set_fits : (g : Grid) (s : ℕ → ℕ) (set : List ℕ) → IsGreatestForbidden g s set → length set ≤ sites g
set_fits g s set is = elim (cases_lt 0 (length set)) [
  | inl some ↦
      let n = length set in
      let high = rises set is.ascending (length set - 1) (omega arith) in
      let low = is.only_sites (length set - 1) 0 (omega arith) in
      omega arith
  | inr none ↦ omega arith
]

-- burning a pile found these sites
pub burning : {A : Type 0} (meaning : Result PileView Fault) (p : PileView) (answer : Result A GroupFault) (found : A)
    (xs : List ℕ) (all : Bool) → meaning ≡ Ok p → answer ≡ Ok found
    → ((answer ≡ Err group.Unstable) ↔ (IsStable p.grid (height_of p) → ⊥)) → IsFound p.grid (height_of p) all xs
    → length xs ≤ sites p.grid → IsBurning meaning xs (length xs) all
burning meaning p answer found xs all meant is unstable its fits = record {
  pile = p;
  meant = meant;
  stable = stable p.grid (height_of p) (λ high. let refused = unstable.1 high in cc);
  bound = fits;
  found = subst (IsFound p.grid (height_of p) all) (sym (take_all (length xs) xs (omega arith))) its;
}
