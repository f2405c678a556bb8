-- A site's place on the tiles.
use Rattle.sand_fronts.proofs.Common.{ℕ, List, length, get_or, ◌≡◌, ◌*◌, ◌<◌, ◌∙◌, sym, arith, refl, nat_tests, Grid, sites, one_at, Tile, bit, height, tile_of, place_of, on_tiles, heights_on, tile_at}
use Rattle.sand_fronts.specs.Waves.{only}
use Rattle.sand_fronts.proofs.Gained.{tile_read}
use Rattle.sand_fronts.proofs.OnTiles.{own_place, on_each}
use Rattle.sand_fronts.proofs.Waves.{only_same}

-- the set of the place of a site, in its tile
pub record IsPlace (g : Grid) (site here set' : ℕ) : Type 0 where
  pub site_inside : site < sites g
  pub is : here ≡ tile_of g site
  pub one : (p : ℕ) → p < 64 → bit set' p ≡ one_at (place_of g site) p

pub placed : {g : Grid} {site here set' : ℕ} (m p : ℕ) → IsPlace g site here set' → p < 64
    → only here (bit set') m p ≡ on_tiles g (one_at site) m p
unfolding only
placed {g} {site} m p place low =
    let own = own_place g site m p low place.site_inside in
    let one = place.one p low in
    grind (arith, nat_tests)

-- the height of a site, read from the list
pub height_read : (g : Grid) (site : ℕ) (ts : List Tile) {k p h : ℕ} {t : Tile} → k < length ts → t ≡ get_or ts k t
    → k ≡ tile_of g site → p ≡ place_of g site → h ≡ height t p → h ≡ heights_on g (tile_at ts) site
height_read g site ts {k} {t = t} inside read tile place is = let whole = tile_read ts k t inside read in cc

-- the set of a site's place, read by site
pub start_of : (g : Grid) (s here : ℕ) (set' : ℕ) → s < sites g → here ≡ tile_of g s
    → ((p : ℕ) → p < 64 → bit set' p ≡ one_at (place_of g s) p)
    → (p : ℕ) → p < 64 → bit set' p ≡ on_tiles g (λ j. 1 * one_at s j) here p
start_of g s here set' inside tile one p low =
    sym (only_same here here (bit set') p refl)
    ∙ placed here p (record { site_inside = inside; is = tile; one = one }) low
    ∙ on_each g here p (λ (r : (ℕ → ℕ) → ℕ). r (one_at s) ≡ r (λ j. 1 * one_at s j)) low (λ j l. omega arith) refl
