-- What holds while a fire spreads over a pile.
use Rattle.std.specs.Prelude.{ℕ, Bool, ◌≡◌, ◌<◌, ◌≤◌, List, [], ◌∷◌, ◌++◌, count_by, nat_le, not, slice_index}
use Rattle.sand_model.specs.Grid.{Grid, sites, neighbours}
use Rattle.sand_model.specs.Lists.{Lists}
use Rattle.sand_group.specs.Recurrence.{is_in}

-- whether a site may burn, for given numbers of unburnt neighbours
abbrev pub may_burn : (ℕ → ℕ) → (ℕ → ℕ) → ℕ → Bool
may_burn s unburnt i = nat_le (unburnt i) (s i)

-- the list has each of the first n sites that may burn, once, and no other
abbrev pub ListsBurning : ℕ → List ℕ → List ℕ → List ℕ → Type 0
ListsBurning n heights unburnt = Lists n (may_burn (slice_index heights) (slice_index unburnt))

-- the same for the sites that may not burn
abbrev pub ListsUnburnt : ℕ → List ℕ → List ℕ → List ℕ → Type 0
ListsUnburnt n heights unburnt = Lists n (λ i. not (may_burn (slice_index heights) (slice_index unburnt) i))

abbrev pub is_out : List ℕ → ℕ → Bool
is_out xs i = not (is_in xs i)

-- each height is at least the number of the site's neighbours that did not burn before it
abbrev pub FireSpreadsFrom : Grid → (ℕ → ℕ) → List ℕ → List ℕ → Type 0
FireSpreadsFrom g s before [] = Unit {0}
FireSpreadsFrom g s before (i ∷ later) =
    (count_by (is_out before) (neighbours g i) ≤ s i) × FireSpreadsFrom g s (before ++ i ∷ []) later

-- for each site, the number of its neighbours outside the list
pub record CountsUnburnt (g : Grid) (burnt : List ℕ) (unburnt : ℕ → ℕ) : Type 0 where
  pub each : (i : ℕ) → i < sites g → unburnt i ≡ count_by (is_out burnt) (neighbours g i)
