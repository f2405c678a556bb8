-- The settled record of a pile, from its parts.
use Rattle.sand_settle.proofs.Common.{ℕ, ◌≡◌, ◌-◌, ◌*◌, ◌^◌, ◌<◌, ◌≤◌, ◌∙◌, refl, sym, ap, subst, arith, List, length, replicate, sum, get_or, slice_index, length-replicate, Grid, sites, missing, IsStable, IsSettled, weight, PileView, IsPile, height_of, weight_after, sum_is_grains, sum_left, topplings_bound, underway_start, underway_end, sum_below_none, SettledView, IsSettledRecord}
use Rattle.sand_settle.proofs.OneRecord.{same_parts}
use Rattle.sand_settle.proofs.Underway.{zero_at}

-- the settled record of a pile with the odometer u and the heights h
abbrev pub settled_view : PileView → List ℕ → List ℕ → SettledView
settled_view start u h = record {
  pile = record { grid = start.grid; heights = h };
  odometer = u;
  topplings = sum u;
  lost = sum start.heights - sum h;
}

-- a settling of a pile
pub record Settles (start : PileView) (u h : List ℕ) : Type 0 where
  pub few : sum u < 2 ^ 54
  pub half : 2 * sum u ≤ weight start.grid (height_of start)
  pub left : sum h ≤ sum start.heights
  pub made : IsSettledRecord start.grid (height_of start) (settled_view start u h)

pub settles : {start : PileView} {u h : List ℕ} → IsPile start → length u ≡ sites start.grid
    → length h ≡ sites start.grid → IsSettled start.grid (height_of start) (slice_index u) (slice_index h)
    → Settles start u h
settles {start} {u} {h} pile counts heights done =
    let g = start.grid in
    let whole = sum_is_grains g start.heights pile.len in
    let all = topplings_bound g (height_of start) (slice_index u) (slice_index h)
    (omega (arith, pile.limit)) done.toppled in
    let falls = weight_after g (height_of start) (slice_index u) (slice_index h) done.toppled in
    let sum_is = sum_is_grains g u counts in
    let kept = sum_left g start.heights h (slice_index u) pile.len heights done.toppled in
    record {
      few = omega arith;
      half = omega arith;
      left = omega arith;
      made = record {
        grid = refl;
        heights_each = heights;
        odometer_each = counts;
        settled = done;
        all_topplings = sum_is;
        all_lost = omega arith;
      };
    }

-- no site of a stable pile topples
pub stable_record : (g : Grid) (h u : List ℕ) → length h ≡ sites g → u ≡ replicate (sites g) 0
    → IsStable g (λ j. get_or h j 0) → IsSettledRecord g (λ j. get_or h j 0) (record {
      pile = record { grid = g; heights = h };
      odometer = u;
      topplings = 0;
      lost = 0;
    })
stable_record g h u each zeros stable =
    let none : (j : ℕ) → get_or u j 0 ≡ 0 = λ j. zero_at (sites g) j u zeros in
    record {
      grid = refl;
      heights_each = each;
      odometer_each = ap length zeros ∙ length-replicate {A = ℕ} (sites g) 0;
      settled = underway_end g _ _ _ (underway_start g _ _ (λ j l. none j)) stable.low;
      all_topplings = sym (sum_below_none (sites g) (slice_index u) (λ j l. none j));
      all_lost = sym (sum_below_none (sites g) (λ j. missing g j * slice_index u j)
          (λ j l. ap (λ n. missing g j * n) (none j) ∙ omega arith));
    }

-- a record that is written down in its parts
pub same_record : (g : Grid) (s : ℕ → ℕ) (r : SettledView) (heights odometer : List ℕ) (topplings lost : ℕ)
    → IsSettledRecord g s r
    → heights ≡ r.pile.heights → odometer ≡ r.odometer → topplings ≡ r.topplings → lost ≡ r.lost
    → IsSettledRecord g s (record {
      pile = record { grid = g; heights = heights };
      odometer = odometer;
      topplings = topplings;
      lost = lost;
    })
same_record g s r heights odometer topplings lost is h o t l =
    subst (IsSettledRecord g s) (same_parts is.grid (sym h) (sym o) (sym t) (sym l)) is
