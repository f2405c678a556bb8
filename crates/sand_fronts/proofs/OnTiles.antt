-- Numbers by site, read by tile and place.
use Rattle.sand_fronts.proofs.Common.{ℕ, true, false, cond, ◌≡◌, ◌+◌, ◌*◌, ◌/◌, ◌%◌, ◌<◌, ◌≤◌, refl, sym, ◌∙◌, ap, subst, arith, ⊎_elim, cases_Bool, nat_tests, div-mul-add, mod-mul-add, div-add-mod', mul-add-lt, div_below, Grid, sites, column, one_at, pitch, row_at, column_at, at_site, bit_le, Tile, height}
use Rattle.sand_fronts.specs.Tiling.{tile_of, place_of, is_site, site_on, on_tiles}
use Rattle.sand_fronts.proofs.NeighboursOnTiles.{tile, place, IsBlank, parts_of}

pub height_low : (t : Tile) (p : ℕ) → height t p ≤ 3
height_low t p = let a = bit_le t.low p in let b = bit_le t.high p in omega arith

pub place_below : (g : Grid) (j : ℕ) → place_of g j < 64
unfolding place_of
place_below g j = omega arith

-- from a site to its tile and place, and back
pub back_again : (g : Grid) (j : ℕ) → j < sites g
    → (is_site g (tile_of g j) (place_of g j) ≡ true) × (site_on g (tile_of g j) (place_of g j) ≡ j)
unfolding tile_of place_of is_site site_on
back_again g j inside =
    let w = g.width in
    let y = j / w in
    let x = j % w in
    let at = parts_of g j inside in
    let k = (y / 8 + 2) * pitch g + (x / 8 + 1) in
    let p = y % 8 * 8 + x % 8 in
    let small : x / 8 + 1 < pitch g = omega arith in
    let r : k / pitch g ≡ y / 8 + 2 = div-mul-add (y / 8 + 2) (pitch g) (x / 8 + 1) small in
    let c : k % pitch g ≡ x / 8 + 1 = mod-mul-add (y / 8 + 2) (pitch g) (x / 8 + 1) small in
    let row_is : row_at g k p ≡ y = omega arith in
    let column_is : column_at g k p ≡ x = omega arith in
    let high : y < g.height = div_below j w g.height at.some (omega arith) in
    (grind (arith, nat_tests), ap (λ t. t * w + column_at g k p) row_is ∙ omega arith)

-- a place that is a site is behind the border and in the grid
pub record IsInGrid (g : Grid) (k p : ℕ) : Type 0 where
  pub below : 2 ≤ k / pitch g
  pub behind : 1 ≤ k % pitch g
  pub high : row_at g k p < g.height
  pub wide : column_at g k p < g.width

pub in_grid : (g : Grid) (k p : ℕ) → is_site g k p ≡ true → IsInGrid g k p
unfolding is_site
in_grid g k p is = record {
  below = grind (arith, nat_tests);
  behind = grind (arith, nat_tests);
  high = grind (arith, nat_tests);
  wide = grind (arith, nat_tests);
}

pub column_there : (g : Grid) (k p : ℕ) → is_site g k p ≡ true → column g (site_on g k p) ≡ column_at g k p
unfolding site_on
column_there g k p is = mod-mul-add (row_at g k p) g.width (column_at g k p) (in_grid g k p is).wide

-- a place has a site, which is at this place
pub record HasSite (g : Grid) (k p : ℕ) : Type 0 where
  pub inside : site_on g k p < sites g
  pub tile : tile_of g (site_on g k p) ≡ k
  pub place : place_of g (site_on g k p) ≡ p

-- from a place that is a site to the site, and back
pub there_again : (g : Grid) (k p : ℕ) → p < 64 → is_site g k p ≡ true → HasSite g k p
unfolding tile_of place_of site_on
there_again g k p low is =
    let w = g.width in
    let bounds = in_grid g k p is in
    let parts = div-add-mod' k (pitch g) in
    let r = row_at g k p in
    let c = column_at g k p in
    let rd : (r * w + c) / w ≡ r = div-mul-add r w c bounds.wide in
    let cd = column_there g k p is in
    let r8 : r / 8 + 2 ≡ k / pitch g = omega arith in
    let c8 : c / 8 + 1 ≡ k % pitch g = omega arith in
    record {
      inside = mul-add-lt r w c g.height bounds.high bounds.wide;
      tile = rw (rd, cd) (ap (λ t. t * pitch g + (c / 8 + 1)) r8 ∙ omega arith);
      place = rw (rd, cd) (omega arith);
    }

pub at_on : (g : Grid) (v : ℕ → ℕ) (j : ℕ) → j < sites g → at_site g (on_tiles g v) j ≡ v j
unfolding on_tiles
at_on g v j inside = let b = back_again g j inside in rw (b.0, b.1)

pub off_site : (g : Grid) (v : ℕ → ℕ) (k p : ℕ) → is_site g k p ≡ false → on_tiles g v k p ≡ 0
unfolding on_tiles
off_site g v k p e = ap (λ t. cond t (v (site_on g k p)) 0) e

pub on_tiles_blank : (g : Grid) (v : ℕ → ℕ) → IsBlank g (on_tiles g v)
unfolding is_site
on_tiles_blank g v y x less out =
    let k = tile g y x in
    let p = place y x in
    let r : k / pitch g ≡ y / 8 = div-mul-add (y / 8) (pitch g) (x / 8) less in
    let c : k % pitch g ≡ x / 8 = mod-mul-add (y / 8) (pitch g) (x / 8) less in
    off_site g v k p (grind (arith, nat_tests))

-- what holds of the numbers of a place's site, and of 0 at a place that is no site, holds of the numbers of the place
pub on_place : (g : Grid) (k p : ℕ) (P : ((ℕ → ℕ) → ℕ) → Type 0) → p < 64
    → ((j : ℕ) → j < sites g → tile_of g j ≡ k → place_of g j ≡ p → P (λ v. v j))
    → (is_site g k p ≡ false → P (λ v. 0)) → P (λ v. on_tiles g v k p)
unfolding on_tiles
on_place g k p P low there off = ⊎_elim
    (λ (is : is_site g k p ≡ true).
    let t = there_again g k p low is in
    subst (λ b. P (λ v. cond b (v (site_on g k p)) 0)) (sym is) (there (site_on g k p) t.inside t.tile t.place))
    (λ (no : is_site g k p ≡ false). subst (λ b. P (λ v. cond b (v (site_on g k p)) 0)) (sym no) (off no))
    (cases_Bool (is_site g k p))

pub on_each : (g : Grid) (k p : ℕ) (P : ((ℕ → ℕ) → ℕ) → Type 0) → p < 64 → ((j : ℕ) → j < sites g → P (λ v. v j))
    → P (λ v. 0) → P (λ v. on_tiles g v k p)
on_each g k p P low each none = on_place g k p P low (λ j l tile place. each j l) (λ no. none)

-- a bound at each site holds at each place
pub on_tiles_le : (g : Grid) (v w : ℕ → ℕ) (k p : ℕ) → p < 64 → ((j : ℕ) → j < sites g → v j ≤ w j)
    → on_tiles g v k p ≤ on_tiles g w k p
on_tiles_le g v w k p low le = on_each g k p (λ (r : (ℕ → ℕ) → ℕ). r v ≤ r w) low le (omega arith)

-- numbers that are 0 at each place that is no site do not change when read by site and back
pub on_tiles_is : (g : Grid) (u : ℕ → ℕ → ℕ) (k p : ℕ) → p < 64 → (is_site g k p ≡ false → u k p ≡ 0)
    → u k p ≡ on_tiles g (at_site g u) k p
on_tiles_is g u k p low none = on_place g k p (λ (r : (ℕ → ℕ) → ℕ). u k p ≡ r (at_site g u)) low
    (λ j l tile place. cc) none

pub on_site : (g : Grid) (v : ℕ → ℕ) (k p : ℕ) → is_site g k p ≡ true → on_tiles g v k p ≡ v (site_on g k p)
unfolding on_tiles
on_site g v k p is = ap (λ b. cond b (v (site_on g k p)) 0) is

pub on_sum : (g : Grid) (u t v : ℕ → ℕ) (m p : ℕ) → p < 64 → ((j : ℕ) → j < sites g → v j ≡ u j + t j)
    → on_tiles g v m p ≡ on_tiles g u m p + on_tiles g t m p
on_sum g u t v m p low sums = on_each g m p (λ (r : (ℕ → ℕ) → ℕ). r v ≡ r u + r t) low sums refl

pub on_below : (g : Grid) (v : ℕ → ℕ) (m p most : ℕ) → p < 64 → ((j : ℕ) → j < sites g → v j ≤ most)
    → on_tiles g v m p ≤ most
on_below g v m p most low few = on_each g m p (λ (r : (ℕ → ℕ) → ℕ). r v ≤ most) low few (omega arith)

-- a site is at its own place alone
pub own_place : (g : Grid) (s m p : ℕ) → p < 64 → s < sites g
    → on_tiles g (one_at s) m p ≡ one_at (tile_of g s) m * one_at (place_of g s) p
own_place g s m p low inside =
    let b = back_again g s inside in
    on_place g m p (λ (r : (ℕ → ℕ) → ℕ). r (one_at s) ≡ one_at (tile_of g s) m * one_at (place_of g s) p) low
    (λ j l tile place'. let c = (back_again g j l).1 in grind (arith, nat_tests)) (λ no. grind (arith, nat_tests))
