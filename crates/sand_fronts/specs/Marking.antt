-- The sites that a drop has toppled, as sets of places.
use Rattle.std.specs.Prelude.{ℕ, Bool, List, true, ◌≡◌, ◌+◌, ◌-◌, ◌<◌, ◌≤◌, slice_index, nat_lt}
use Rattle.sand_model.specs.Grid.{Grid}
use Rattle.sand_model.specs.Sand.{sum_below}
use Rattle.sand_model.specs.Lists.{one_if}
use Rattle.sand_tiles.specs.Places.{bit}
use Rattle.sand_tiles.specs.Counts.{Count, counted}
use Rattle.sand_fronts.specs.Tiling.{is_site, on_tiles}

-- the set of each tile, and the tiles whose sets are not empty
pub record MarksView : Type 0 where
  pub sets : List ℕ
  pub tiles : List ℕ

abbrev pub has_mark : List ℕ → ℕ → Bool
has_mark sets k = nat_lt 0 (slice_index sets k)

-- the number of places in n sets
abbrev pub in_sets : ℕ → (ℕ → ℕ) → ℕ
in_sets n words = sum_below n (λ k. sum_below 64 (bit (words k)))

-- when the counts c become d, the places whose count grows join the sets a, which become b
pub record AreMarked (c d : ℕ → Count) (a b : ℕ → ℕ) : Type 0 where
  pub never_falls : (m p : ℕ) → p < 64 → counted (c m) p ≤ counted (d m) p
  pub kept : (m p : ℕ) → p < 64 → bit (a m) p ≤ bit (b m) p
  pub new : (m p : ℕ) → p < 64 → counted (c m) p < counted (d m) p → bit (b m) p ≡ 1
  pub no_other : (m p : ℕ) → p < 64 → bit (b m) p ≤ bit (a m) p + (counted (d m) p - counted (c m) p)

-- a place is in the sets if and only if its site has toppled, each site j v j times
abbrev pub AreToppled : Grid → (ℕ → ℕ) → (ℕ → ℕ) → Type 0
AreToppled g v words =
    (m p : ℕ) → p < 64 → bit (words m) p ≡ on_tiles g (λ j. one_if (nat_lt 0 (v j))) m p

abbrev pub AreSites : Grid → (ℕ → ℕ) → Type 0
AreSites g words = (m p : ℕ) → p < 64 → bit (words m) p ≡ 1 → is_site g m p ≡ true
