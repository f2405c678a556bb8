-- A new pile on tiles.
use Rattle.sand_fronts.proofs.Common.{ℕ, List, [], length, replicate, get_or, count_by, is_none, ◌≡◌, ◌+◌, ◌*◌, ◌/◌, ◌%◌, ◌<◌, ◌≤◌, refl, sym, ◌∙◌, ap, subst, arith, slice_index, get_or-eq_default, lt-ltb, div-mul-add, mod-mul-add, ext_get_or, get_or-replicate, length-replicate, Grid, sites, places, Tile, had, Count, counted, times, IsRecent, IsCount, no_recent, bit_none, Sand, Counts, tile_of, place_of, row_at, column_at, on_tiles, IsInner, spilled_at, count_at, heights_on, counted_on, grown_on, AreQuiet, tiles_of, counts_of, tiled_view, IsTiledView}
use Rattle.std.proofs.lemmas.List.FromFn.{get_or-map-range_with_len, length-map-range_with_len}
use Rattle.sand_model.specs.Grid.{missing, north, west, east, south}
use Rattle.sand_model.proofs.Neighbours.{missing_is}
use Rattle.sand_tiles.specs.declared.counting.Recent.{Recent}
use Rattle.sand_fronts.specs.Tiling.{site_on}
use Rattle.sand_fronts.specs.TiledPiles.{by_site}
use Rattle.sand_fronts.proofs.Filled.{entry_each, inner_site}
use Rattle.sand_fronts.proofs.OnTiles.{place_below, at_on, on_site, on_below, on_sum}

none_at : {A : Type 0} (d : A) (xs : List A) (n m : ℕ) → xs ≡ replicate n d → get_or xs m d ≡ d
none_at {A = A} d xs n m all = entry_each d (λ k x. x ≡ d) xs n (ap length all ∙ length-replicate {A = A} n d)
    (λ k less. ap (λ (ys : List A). get_or ys k d) all ∙ get_or-replicate {A = A} n k d d less) (λ k past. refl) m

-- so nothing is counted
pub counts_new : (ws : List ℕ) (cs : List Recent) (ss : List (List ℕ)) (n m : ℕ) → ws ≡ replicate n 0
    → cs ≡ replicate n no_recent → ss ≡ []
    → IsCount (count_at ws cs ss m) × ((p : ℕ) → p < 64 → counted (count_at ws cs ss m) p ≡ 0)
counts_new ws cs ss n m zeros all none = subst
    (λ r. IsRecent r × ((p : ℕ) → p < 64 → slice_index ws m + spilled_at ss m p + times r.planes p ≡ 0))
    (sym (none_at no_recent cs n m all)) (
      record { bound = omega arith; each = λ p low. omega (arith, bit_none p) },
      λ p low. omega (
        arith,
        bit_none p,
        none_at 0 ws n m zeros,
        ap (λ (xs : List (List ℕ)). spilled_at xs m p) none,
      ),
    )

-- tiles where each site has had just its height are at rest
pub new_quiet : (g : Grid) (h : ℕ → ℕ) (τ : ℕ → Tile) → ((j : ℕ) → j < sites g → h j ≤ 3)
    → ((m p : ℕ) → p < 64 → had (τ m) p ≡ on_tiles g h m p) → AreQuiet τ
new_quiet g h τ low all = record {
  clear = λ m p l. omega (arith, all m p l, on_below g h m p 3 l low);
  none_due = λ m p l. omega (arith, all m p l, on_below g h m p 3 l low);
}

pub new_heights : (g : Grid) (h : ℕ → ℕ) (τ : ℕ → Tile) (j : ℕ) → ((j : ℕ) → j < sites g → h j ≤ 3)
    → ((m p : ℕ) → p < 64 → had (τ m) p ≡ on_tiles g h m p) → j < sites g → heights_on g τ j ≡ h j
new_heights g h τ j low all l =
    omega (arith, all (tile_of g j) (place_of g j) (place_below g j), at_on g h j l, low j l)

-- ---- the number of places around each site outside the grid

pub none_missing : (g : Grid) (y x : ℕ) → 0 < y → y + 1 < g.height → 0 < x → x + 1 < g.width
    → 0 ≡ missing g (y * g.width + x)
unfolding north west east south
none_missing g y x above below before after =
    let w = g.width in
    let r : (y * w + x) / w ≡ y = div-mul-add y w x (omega arith) in
    let c : (y * w + x) % w ≡ x = mod-mul-add y w x (omega arith) in
    let none : 0 ≡ count_by is_none (places g (y * w + x)) = rw (
      lt-ltb 0 ((y * w + x) / w) (omega arith),
      lt-ltb ((y * w + x) / w + 1) g.height (omega arith),
      lt-ltb 0 ((y * w + x) % w) (omega arith),
      lt-ltb ((y * w + x) % w + 1) w (omega arith),
    ) refl in
    none ∙ sym (missing_is g (y * w + x))

pub inner_missing : (g : Grid) (k p : ℕ) → IsInner g k → p < 64 → on_tiles g (missing g) k p ≡ 0
unfolding site_on
inner_missing g k p inner low =
    let above = inner.above in let before = inner.before in let below = inner.below in let after = inner.after in
    on_site g (missing g) k p (inner_site g k p inner low)
    ∙ sym (none_missing g (row_at g k p) (column_at g k p) (omega arith) (omega arith) (omega arith) (omega arith))

pub few_missing : (g : Grid) (j n : ℕ) → n ≡ missing g j → n ≤ 7
unfolding missing
few_missing g j n is = omega arith

-- ---- counts of no topplings, and of one more drop

pub counts_no_site : (g : Grid) (c : ℕ → Count) → ((m p : ℕ) → p < 64 → counted (c m) p ≡ 0) → (m p : ℕ) → p < 64
    → counted (c m) p ≡ on_tiles g (counted_on g c) m p
counts_no_site g c none m p low =
    let below = on_below g (counted_on g c) m p 0 low
    (λ j l. omega (arith, none (tile_of g j) (place_of g j) (place_below g j))) in
    omega (arith, none m p low)

pub counts_sites : (g : Grid) (c d : ℕ → Count)
    → ((m p : ℕ) → p < 64 → counted (c m) p ≡ on_tiles g (counted_on g c) m p)
    → ((m p : ℕ) → p < 64 → counted (d m) p ≡ counted (c m) p + on_tiles g (grown_on g c d) m p)
    → (m p : ℕ) → p < 64 → counted (d m) p ≡ on_tiles g (counted_on g d) m p
counts_sites g c d before grown m p low =
    let sum = on_sum g (counted_on g c) (grown_on g c d) (counted_on g d) m p low
    (λ j l. omega (arith, grown (tile_of g j) (place_of g j) (place_below g j))) in
    omega (arith, before m p low, grown m p low)

pub few_at_sites : (g : Grid) (c : ℕ → Count) (most : ℕ)
    → ((m p : ℕ) → p < 64 → counted (c m) p ≡ on_tiles g (counted_on g c) m p)
    → ((j : ℕ) → j < sites g → counted_on g c j ≤ most) → (m p : ℕ) → p < 64 → counted (c m) p ≤ most
few_at_sites g c most counts few m p low =
    omega (arith, counts m p low, on_below g (counted_on g c) m p most low few)

-- ---- numbers by site, in a list

pub by_site_at : (g : Grid) (f : ℕ → ℕ) (j : ℕ) → j < sites g → slice_index (by_site g f) j ≡ f j
unfolding by_site
by_site_at g f j l = get_or-map-range_with_len f 0 (sites g) j j 0 l (omega arith)

pub by_site_long : (g : Grid) (f : ℕ → ℕ) → length (by_site g f) ≡ sites g
unfolding by_site
by_site_long g f = length-map-range_with_len f 0 (sites g)

pub by_site_is : (g : Grid) (f : ℕ → ℕ) (xs : List ℕ) → length xs ≡ sites g
    → ((j : ℕ) → j < sites g → get_or xs j 0 ≡ f j) → xs ≡ by_site g f
by_site_is g f xs each same = ext_get_or 0 xs (by_site g f) (each ∙ sym (by_site_long g f))
    (λ j l. same j (omega arith) ∙ sym (by_site_at g f j (omega arith)))

by_site_past : (g : Grid) (f : ℕ → ℕ) (j : ℕ) → sites g ≤ j → slice_index (by_site g f) j ≡ 0
by_site_past g f j past = get_or-eq_default (by_site g f) 0 {n = j} (omega (arith, by_site_long g f))

pub by_site_view : (g : Grid) (s : Sand) (c : Counts) → IsTiledView (tiled_view g s c)
by_site_view g s c = record {
  heights_each = by_site_long g (heights_on g (tiles_of s));
  times_each = by_site_long g (counted_on g (counts_of c));
}

pub by_site_le : (g : Grid) (u v : ℕ → ℕ) (j : ℕ) → (j < sites g → u j ≤ v j)
    → slice_index (by_site g u) j ≤ slice_index (by_site g v) j
by_site_le g u v j le = grind (arith, by_site_at g u j, by_site_at g v j, by_site_past g u j, le)

pub by_site_none : (g : Grid) (f : ℕ → ℕ) → ((j : ℕ) → j < sites g → f j ≡ 0) → (j : ℕ)
    → slice_index (by_site g f) j ≡ 0
by_site_none g f none j = grind (arith, by_site_at g f j, by_site_past g f j, none j)
