-- All grains of a start and its drops; balance and the bound on topplings after steps that topple nothing.
use Rattle.sand_shared.proofs.Common.{◌≡◌, ℕ, ◌+◌, ◌<◌, ◌≤◌, List, All, length, sum, arith, Grid, sites, grains, occurrences, IsToppled, Stabilises, PileView, IsPile, height_of, sum_below-add, sum_below-occurrences, sum_is_grains, flow_same}

pub grains_in_all : (start : PileView) (drops : List ℕ) → IsPile start → All (λ i. i < sites start.grid) drops
    → grains start.grid (λ i. height_of start i + occurrences drops i) ≡ sum start.heights + length drops
grains_in_all start drops pile inside =
    let both = sum_below-add (sites start.grid) (height_of start) (occurrences drops) in
    let mine = sum_is_grains start.grid start.heights pile.len in
    let dropped = sum_below-occurrences (sites start.grid) drops inside in omega arith

-- the drawn grains and those present grow by the same amount at each site
pub balance_kept : {g : Grid} {s u r s' u' r' : ℕ → ℕ} → IsToppled g s u r → ((i : ℕ) → u' i ≡ u i)
    → ((i : ℕ) → i < sites g → r' i + s i ≡ r i + s' i) → IsToppled g s' u' r'
balance_kept {g = g} {u = u} {u' = u'} b still even = record {
  balance = λ i l.
      omega (arith, b.balance i l, still i, even i l, flow_same g u' u (λ j _. still j) i l);
}

-- what stabilises more grains stabilises fewer
pub stabilises_fewer : {g : Grid} {s s' w : ℕ → ℕ} → Stabilises g s' w → ((i : ℕ) → i < sites g → s i ≤ s' i)
    → Stabilises g s w
stabilises_fewer stab fewer =
    record { at_most_three = λ i l. let a = stab.at_most_three i l in let b = fewer i l in omega arith }
