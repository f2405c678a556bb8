-- What a sweep promises the pass that sweeps, whatever other threads do meanwhile.
-- Here k = start + own receipts - L(own counts), with the toppling matrix L (Dhar 1990), written without subtraction.
use Rattle.std.specs.Prelude.{ℕ, ◌≡◌, ◌+◌, ◌-◌, ◌*◌, ◌<◌, ◌≤◌, ◌↔◌, List, ◌++◌, length, sum, take, drop, slice_index}
use Rattle.sand_model.specs.Grid.{sites}
use Rattle.sand_model.specs.Sand.{flow, IsSettled, Stabilises, weight, topplings as topplings_of, lost as lost_of}
use Rattle.sand_model.specs.Piles.{height_of}
use Rattle.sand_settle.specs.Settling.{SettledView, odometer_of}
use Rattle.sand_shared.specs.declared.view.View.{View}
use Rattle.sand_shared.specs.declared.view.Terms.{Terms}
use Rattle.sand_shared.specs.OpenPile.{grid_of_terms, receipts_for, toppled_by}
use Rattle.sand_shared.specs.Passes.{PassView, at_rest, IsWhole}

-- the start and the pass's own receipts
abbrev pub start_and_receipts : Terms → View → ℕ → ℕ
start_and_receipts t v i = height_of t.start i + receipts_for v.receipts i

-- k is at most n at a site
abbrev pub LeavesAtMost : Terms → View → ℕ → ℕ → Type 0
LeavesAtMost t v i n = start_and_receipts t v i + flow (grid_of_terms t) (toppled_by v) i ≤ n + 4 * toppled_by v i

-- k is at least n at a site
abbrev pub LeavesAtLeast : Terms → View → ℕ → ℕ → Type 0
LeavesAtLeast t v i n = n + 4 * toppled_by v i ≤ start_and_receipts t v i + flow (grid_of_terms t) (toppled_by v) i

-- nothing is left to topple: k is at most 3 everywhere
abbrev pub IsCalm : Terms → View → Type 0
IsCalm t v = (i : ℕ) → i < sites (grid_of_terms t) → LeavesAtMost t v i 3

-- no site has toppled more often than the start and the receipts require, and the total is bounded by their weight
pub record IsSparing (t : Terms) (v : View) : Type 0 where
  pub needed : (w : ℕ → ℕ) → Stabilises (grid_of_terms t) (start_and_receipts t v) w
      → (i : ℕ) → i < sites (grid_of_terms t)
      → toppled_by v i ≤ w i
  pub weighed : 2 * sum v.counts ≤ weight (grid_of_terms t) (start_and_receipts t v)

abbrev pub with_counts : View → List ℕ → View
with_counts v counts = record v { counts = counts }

-- the pass when a sweep that ends with these counts comes to its j-th site: only the sites before it are swept
abbrev pub coming_to : View → List ℕ → ℕ → View
coming_to v counts j = with_counts v (take j counts ++ drop j v.counts)

-- the j-th site toppled k div 4 times, for the k when the sweep came to it
abbrev pub TopplesInTurn : Terms → View → List ℕ → ℕ → Type 0
TopplesInTurn t v counts j = let times = slice_index counts j - slice_index v.counts j in
    LeavesAtLeast t (coming_to v counts j) (v.base + j) (4 * times)
    × LeavesAtMost t (coming_to v counts j) (v.base + j) (4 * times + 3)

-- a sweep over the rows of v that leaves these counts and returns these topplings
pub record SweptRows (t : Terms) (v : View) (counts : List ℕ) (topplings : ℕ) : Type 0 where
  pub same_rows : length counts ≡ length v.counts
  pub risen : sum counts ≡ sum v.counts + topplings
  pub idle : topplings ≡ 0 → counts ≡ v.counts
  pub never_fall : (j : ℕ) → slice_index v.counts j ≤ slice_index counts j
  -- each site toppled at least k div 4 times
  pub enough : (j : ℕ) → j < length v.counts
      → LeavesAtMost t v (v.base + j) (4 * (slice_index counts j - slice_index v.counts j) + 3)

-- such a sweep over all sites, if no other pass can drop or topple
pub record SweptAll (t : Terms) (v : View) (counts : List ℕ) (topplings : ℕ) : Type 0 where
  -- nothing toppled if and only if nothing was left to topple
  pub calm : (topplings ≡ 0) ↔ IsCalm t v
  pub sparing : IsSparing t (with_counts v counts)
  -- each site was visited once, in turn, and toppled as often as its grains then allowed
  pub in_turn : (j : ℕ) → j < length v.counts → TopplesInTurn t v counts j

-- a sweep of the pass p that leaves these counts and returns these topplings
pub record Swept (t : Terms) (p : PassView) (counts : List ℕ) (topplings : ℕ) : Type 0 where
  pub rows : SweptRows t (at_rest p) counts topplings
  pub whole : IsWhole t p → SweptAll t (at_rest p) counts topplings

-- r settles what a whole pass has left to topple: its counts and r's odometer add up to the least odometer of the start
-- and its receipts
pub record IsRestOf (t : Terms) (p : PassView) (r : SettledView) : Type 0 where
  pub grid : r.pile.grid ≡ grid_of_terms t
  pub heights_each : length r.pile.heights ≡ sites (grid_of_terms t)
  pub odometer_each : length r.odometer ≡ sites (grid_of_terms t)
  pub settled : IsSettled (grid_of_terms t) (λ i. height_of t.start i + receipts_for p.receipts i)
      (λ i. slice_index p.counts i + odometer_of r i) (height_of r.pile)
  pub all_topplings : r.topplings ≡ topplings_of (grid_of_terms t) (odometer_of r)
  pub all_lost : r.lost ≡ lost_of (grid_of_terms t) (odometer_of r)
