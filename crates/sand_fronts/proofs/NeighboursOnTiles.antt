-- The neighbours of a site, on the tiles. Rows and columns are counted with the border here: 16 rows above those of the
-- grid, and 8 columns before them. So a step to a neighbour changes a row or a column by 1, in a tile or over its rim.
use Rattle.sand_fronts.proofs.Common.{ℕ, ◌⊎◌, inl, inr, ◌≡◌, ◌≢◌, ◌+◌, ◌-◌, ◌*◌, ◌/◌, ◌%◌, ◌<◌, ◌≤◌, refl, sym, ◌∙◌, ap, arith, nat_tests, div-mul-add, mod-mul-add, div-add-mod', mod_below, Grid, sites, value_at, flow, across, pitch, tile_flow, at_site}
use Rattle.sand_model.specs.Grid.{north, south, west, east}
use Rattle.sand_model.proofs.Neighbours.{flow_four, some_width}
use Rattle.sand_tiles.specs.Places.{north as inner_north, south as inner_south, west as inner_west, east as inner_east}
use Rattle.sand_fronts.specs.Tiling.{tile_of, place_of, over_north, over_south, over_west, over_east, to_west, to_east, shift_west, shift_east}

abbrev pub tile : Grid → ℕ → ℕ → ℕ
tile g y x = y / 8 * pitch g + x / 8

abbrev pub place : ℕ → ℕ → ℕ
place y x = y % 8 * 8 + x % 8

abbrev pub cell : Grid → (ℕ → ℕ → ℕ) → ℕ → ℕ → ℕ
cell g u y x = u (tile g y x) (place y x)

-- u is 0 outside the grid
abbrev pub IsBlank : Grid → (ℕ → ℕ → ℕ) → Type 0
IsBlank g u = (y x : ℕ) → x / 8 < pitch g → (y < 16) ⊎ ((16 + g.height ≤ y) ⊎ ((x < 8) ⊎ (8 + g.width ≤ x)))
    → cell g u y x ≡ 0

same2 : (u : ℕ → ℕ → ℕ) (k l p q : ℕ) → k ≡ l → p ≡ q → u k p ≡ u l q
same2 u k l p q a b = ap (λ i. u i p) a ∙ ap (u l) b

-- a site's tile and place
pub site_at : (g : Grid) (j y x : ℕ) → x < g.width → j ≡ y * g.width + x
    → (tile_of g j ≡ (y / 8 + 2) * pitch g + (x / 8 + 1)) × (place_of g j ≡ place y x)
unfolding tile_of place_of
site_at g j y x less e =
    let w = g.width in
    let r : j / w ≡ y = ap (λ i. i / w) e ∙ div-mul-add y w x less in
    let c : j % w ≡ x = ap (λ i. i % w) e ∙ mod-mul-add y w x less in (
      ap (λ t. (t / 8 + 2) * pitch g + (j % w / 8 + 1)) r ∙ ap (λ t. (y / 8 + 2) * pitch g + (t / 8 + 1)) c,
      ap (λ t. t % 8 * 8 + j % w % 8) r ∙ ap (λ t. y % 8 * 8 + t % 8) c,
    )

-- the same, with the border
site_cell : (g : Grid) (j y x : ℕ) → x < g.width → j ≡ y * g.width + x
    → (tile_of g j ≡ tile g (y + 16) (x + 8)) × (place_of g j ≡ place (y + 16) (x + 8))
site_cell g j y x less e =
    let s = site_at g j y x less e in
    let a : y / 8 + 2 ≡ (y + 16) / 8 = omega arith in
    let b : x / 8 + 1 ≡ (x + 8) / 8 = omega arith in
    (s.0 ∙ ap (λ t. t * pitch g + (x / 8 + 1)) a ∙ ap (λ t. (y + 16) / 8 * pitch g + t) b, s.1 ∙ omega arith)

at_cell : (g : Grid) (u : ℕ → ℕ → ℕ) (j y z x : ℕ) → z ≡ y + 16 → 8 ≤ x → x < g.width + 8 → j + 8 ≡ y * g.width + x
    → at_site g u j ≡ cell g u z x
at_cell g u j y z x row_is low less e =
    let s = site_cell g j y (x - 8) (omega arith) (omega arith) in
    same2 u _ _ _ _ s.0 s.1 ∙ same2 (cell g u) _ _ _ _ (sym row_is) (let d : x - 8 + 8 ≡ x = omega arith in d)

-- a site at its row and column
pub record IsAt (g : Grid) (j y x : ℕ) : Type 0 where
  pub some : 0 < g.width
  pub wide : x < g.width
  pub is : j ≡ y * g.width + x

pub parts_of : (g : Grid) (j : ℕ) → j < sites g → IsAt g j (j / g.width) (j % g.width)
parts_of g j inside =
    let some = some_width g.width g.height j inside in
    let parts = div-add-mod' j g.width in
    record { some = some; wide = mod_below j g.width some; is = omega arith }

-- ---- one step on the tiles, and on the grid

-- the site j in the row y and the column x is the place p of the tile k
record IsPlaced (g : Grid) (j k p y x : ℕ) : Type 0 where
  pub row_is : j / g.width ≡ y
  pub column_is : j % g.width ≡ x
  pub wide : x < g.width
  pub is : j ≡ y * g.width + x
  pub tile_is : k ≡ tile g (y + 16) (x + 8)
  pub place_is : p ≡ place (y + 16) (x + 8)

-- On each side there is a site, near or across the seam, or none; and a place, in the tile or over its rim. They agree.
north_side : {g : Grid} {j k p y x : ℕ} (u : ℕ → ℕ → ℕ) → IsBlank g u → IsPlaced g j k p y x
    → value_at (at_site g u) (north g j) ≡ inner_north (u k) p + over_north (u (k - pitch g)) p
unfolding north inner_north over_north
north_side {g} {j} {k} {p} {y} {x} u blank at =
    let near = λ (some : 0 < y).
    let m = ap (λ t. t * g.width) (let e : y ≡ y - 1 + 1 = omega arith in e) in
    at_cell g u (j - g.width) (y - 1) (y + 15) (x + 8) (omega arith) (omega arith) (omega arith) (omega arith) in
    let out = λ (none : y ≡ 0). blank (y + 15) (x + 8) (omega arith) (inl (omega arith)) in
    let inner = λ (low : 8 ≤ p).
    let m = ap (λ t. t * pitch g) (let e : (y + 16) / 8 ≡ (y + 15) / 8 = omega arith in e) in
    same2 u k (tile g (y + 15) (x + 8)) (p - 8) (place (y + 15) (x + 8)) (omega arith) (omega arith) in
    let over = λ (low : p < 8).
    let m = ap (λ t. t * pitch g) (let e : (y + 16) / 8 ≡ (y + 15) / 8 + 1 = omega arith in e) in
    same2 u (k - pitch g) (tile g (y + 15) (x + 8)) (p + 56) (place (y + 15) (x + 8)) (omega arith) (omega arith) in
    grind (arith, nat_tests)

south_side : {g : Grid} {j k p y x : ℕ} (u : ℕ → ℕ → ℕ) → IsBlank g u → IsPlaced g j k p y x
    → value_at (at_site g u) (south g j) ≡ inner_south (u k) p + over_south (u (k + pitch g)) p
unfolding south inner_south over_south
south_side {g} {j} {k} {p} {y} {x} u blank at =
    let near = at_cell g u (j + g.width) (y + 1) (y + 17) (x + 8) (omega arith) (omega arith) (omega arith)
    (omega arith) in
    let out = λ (none : g.height ≤ y + 1). blank (y + 17) (x + 8) (omega arith) (inr (inl (omega arith))) in
    let inner = λ (low : p < 56).
    let m = ap (λ t. t * pitch g) (let e : (y + 16) / 8 ≡ (y + 17) / 8 = omega arith in e) in
    same2 u k (tile g (y + 17) (x + 8)) (p + 8) (place (y + 17) (x + 8)) (omega arith) (omega arith) in
    let over = λ (low : 56 ≤ p).
    let m = ap (λ t. t * pitch g) (let e : (y + 17) / 8 ≡ (y + 16) / 8 + 1 = omega arith in e) in
    same2 u (k + pitch g) (tile g (y + 17) (x + 8)) (p - 56) (place (y + 17) (x + 8)) (omega arith) (omega arith) in
    grind (arith, nat_tests)

west_side : {g : Grid} {j k p y x : ℕ} (u : ℕ → ℕ → ℕ) → IsBlank g u → IsPlaced g j k p y x
    → value_at (at_site g u) (west g j) ≡ inner_west (u k) p + over_west (shift_west g k) (u (to_west g k)) p
unfolding west inner_west over_west shift_west to_west
west_side {g} {j} {k} {p} {y} {x} u blank at =
    let w = g.width in
    let col : k % pitch g ≡ (x + 8) / 8 =
    ap (λ t. t % pitch g) at.tile_is ∙ mod-mul-add ((y + 16) / 8) (pitch g) ((x + 8) / 8) (omega arith) in
    let near = λ (some : 0 < x).
    at_cell g u (j - 1) y (y + 16) (x + 7) refl (omega arith) (omega arith) (omega arith) in
    let far = λ (none : x ≡ 0).
    at_cell g u (j + (w - 1)) y (y + 16) (w + 7) refl (omega arith) (omega arith) (omega arith) in
    let out = λ (none : x ≡ 0). blank (y + 16) (x + 7) (omega arith) (inr (inr (inl (omega arith)))) in
    let inner = λ (other : p % 8 ≢ 0).
    same2 u k (tile g (y + 16) (x + 7)) (p - 1) (place (y + 16) (x + 7)) (omega arith) (omega arith) in
    let over = λ (first : p % 8 ≡ 0).
    same2 u (k - 1) (tile g (y + 16) (x + 7)) (p + 7) (place (y + 16) (x + 7)) (omega arith) (omega arith) in
    let seam = λ (none : x ≡ 0). same2 u (k + (across g - 1)) (tile g (y + 16) (w + 7)) (p + (w - 1) % 8)
    (place (y + 16) (w + 7)) (omega arith) (omega arith) in
    let first : x ≡ 0 → (p % 8 ≡ 0) × (k % pitch g ≡ 1) = λ none. (omega arith, omega arith) in
    let later : 0 < x → p % 8 ≡ 0 → k % pitch g ≢ 1 = λ some at_first e. omega arith in
    grind (arith, nat_tests)

east_side : {g : Grid} {j k p y x : ℕ} (u : ℕ → ℕ → ℕ) → IsBlank g u → IsPlaced g j k p y x
    → value_at (at_site g u) (east g j) ≡ inner_east (u k) p + over_east (shift_east g k) (u (to_east g k)) p
unfolding east inner_east over_east shift_east to_east
east_side {g} {j} {k} {p} {y} {x} u blank at =
    let w = g.width in
    let col : k % pitch g ≡ (x + 8) / 8 =
    ap (λ t. t % pitch g) at.tile_is ∙ mod-mul-add ((y + 16) / 8) (pitch g) ((x + 8) / 8) (omega arith) in
    let near = λ (some : x + 1 < w).
    at_cell g u (j + 1) y (y + 16) (x + 9) refl (omega arith) (omega arith) (omega arith) in
    let far = λ (none : x + 1 ≡ w).
    at_cell g u (j - (w - 1)) y (y + 16) 8 refl (omega arith) (omega arith) (omega arith) in
    let out = λ (none : x + 1 ≡ w). blank (y + 16) (x + 9) (omega arith) (inr (inr (inr (omega arith)))) in
    let inner = λ (other : p % 8 ≢ 7).
    same2 u k (tile g (y + 16) (x + 9)) (p + 1) (place (y + 16) (x + 9)) (omega arith) (omega arith) in
    let over = λ (last : p % 8 ≡ 7).
    same2 u (k + 1) (tile g (y + 16) (x + 9)) (p - 7) (place (y + 16) (x + 9)) (omega arith) (omega arith) in
    let seam = λ (none : x + 1 ≡ w). same2 u (k - (across g - 1)) (tile g (y + 16) 8) (p - (w - 1) % 8)
    (place (y + 16) 8) (omega arith) (omega arith) in
    let last : x + 1 ≡ w → (p % 8 ≡ (w - 1) % 8) × (k % pitch g ≡ across g) = λ none. (omega arith, omega arith) in
    let before : x + 1 < w → k % pitch g ≡ across g → (p % 8 ≢ (w - 1) % 8) × (p % 8 ≢ 7) =
    λ some e. ((λ at_last. omega arith), (λ at_last. omega arith)) in
    grind (arith, nat_tests)

-- a site gains from its neighbours what its place gains on the tiles
pub flow_on_tiles : (g : Grid) (u : ℕ → ℕ → ℕ) (j : ℕ) → IsBlank g u → j < sites g
    → flow g (at_site g u) j ≡ tile_flow g u (tile_of g j) (place_of g j)
flow_on_tiles g u j blank inside =
    let at = parts_of g j inside in
    let s = site_cell g j (j / g.width) (j % g.width) at.wide at.is in
    let placed : IsPlaced g j (tile_of g j) (place_of g j) (j / g.width) (j % g.width) = record {
      row_is = refl;
      column_is = refl;
      wide = at.wide;
      is = at.is;
      tile_is = s.0;
      place_is = s.1;
    } in
    let all = flow_four g (at_site g u) j in
    let n = north_side u blank placed in
    let s' = south_side u blank placed in
    let w = west_side u blank placed in
    let e = east_side u blank placed in
    omega arith
