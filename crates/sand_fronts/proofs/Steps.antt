-- A step, from the tiles to the grid.
use Rattle.sand_fronts.proofs.Common.{ℕ, ◌≡◌, ◌+◌, ◌/◌, ◌%◌, ◌^◌, ◌<◌, ◌≤◌, ◌∙◌, sym, ap, subst, arith, refl, mod-mul-add, Grid, sites, flow, flow_same, flow-add, Tile, bit, height, had, around, Visits, Beside, pitch, place_of, at_site, toppled, only, put, over_rim, IsBeside}
use Rattle.sand_tiles.proofs.Around.{around_none}
use Rattle.sand_fronts.specs.Tiling.{tile_of}
use Rattle.sand_fronts.proofs.NeighboursOnTiles.{tile, place, IsBlank, parts_of, flow_on_tiles}
use Rattle.sand_fronts.proofs.OnTiles.{place_below, on_tiles_blank, on_sum, height_low}
use Rattle.sand_fronts.proofs.Waves.{only_same, only_other, IsStart, Starts, IsUnderWay, free_at, newly, needed_next}
use Rattle.sand_fronts.proofs.Rims.{IsInner, north_rim, south_rim, east_rim, west_rim}
use Rattle.sand_fronts.proofs.Gained.{cond_each}

pub inner : (g : Grid) (j : ℕ) → j < sites g → IsInner g (tile_of g j)
unfolding tile_of
inner g j inside =
    let w = g.width in
    let at = parts_of g j inside in
    let col = mod-mul-add (j / w / 8 + 2) (pitch g) (j % w / 8 + 1) (omega arith) in
    record { first = omega arith; last = omega arith; rows = omega arith }

-- the grains of the set `new` that a site gains: inside the tile k, and over its rim
pub gained : (g : Grid) (k new : ℕ) (b : Beside) (j : ℕ) → j < sites g → IsInner g k
    → IsBeside g k b → new < 2 ^ 64 → IsBlank g (only k (bit new))
    → flow g (at_site g (only k (bit new))) j
    ≡ around (only k (bit new) (tile_of g j)) (place_of g j) + over_rim b new (tile_of g j) (place_of g j)
gained g k new b j inside ik beside fits blank =
    let m = tile_of g j in
    let p = place_of g j in
    let im = inner g j inside in
    rw (beside.north, beside.south, beside.west, beside.east, beside.west_shift, beside.east_shift)
    (
    let tiles = flow_on_tiles g (only k (bit new)) j blank inside in
    let rim = north_rim g (bit new) k m p (omega arith) in
    let rim' = south_rim g (bit new) k m p (omega arith) in
    omega (arith, east_rim g (bit new) k m p im ik, west_rim g (bit new) k m p im ik))

-- what a tile has before and after the places of the set `new` topple
record Pays (t v : Tile) (free : ℕ) (new : ℕ → ℕ) : Type 0 where
  pub once : (p : ℕ) → p < 64 → bit v.wave p ≡ bit t.wave p + new p
  pub at_open : (p : ℕ) → p < 64 → bit free p ≡ 1 → had v p ≡ had t p + around new p
  pub modulo : (p : ℕ) → p < 64 → height v p ≡ (height t p + around new p) % 4

-- a tile is visited, and the others stay
pays_put : (free : ℕ → ℕ) (τ : ℕ → Tile) (k start new : ℕ) (t : Tile) → Visits (τ k) t (free k) start new → (m : ℕ)
    → Pays (τ m) (put k t τ m) (free m) (only k (bit new) m)
pays_put free τ k start new t visits = cond_each (λ m x. Pays (τ m) x (free m) (only k (bit new) m)) τ k t
    (subst (Pays (τ k) t (free k)) (λ i p. sym (only_same k k (bit new) p refl) i)
    (record { once = visits.once; at_open = visits.at_open; modulo = visits.modulo }))
    (λ m ne. subst (Pays (τ m) (τ m) (free m)) (λ i p. sym (only_other k m (bit new) p ne) i) (record {
      once = λ p l. omega arith;
      at_open = λ p l is. omega (arith, around_none (λ q. 0) p l (λ q x. refl));
      modulo = λ p l. omega (arith, around_none (λ q. 0) p l (λ q x. refl), height_low (τ m) p);
    }))

-- the wave after a visit of tile k, whose sites in the set `new` have toppled
pub record HasToppled (g : Grid) (site : ℕ) (h : ℕ → ℕ) (τ σ : ℕ → Tile) (away : ℕ → ℕ → ℕ) (k new : ℕ) : Type 0 where
  pub wave : IsUnderWay g site h σ away
  pub once : (j : ℕ) → toppled g σ j ≡ toppled g τ j + at_site g (only k (bit new)) j

-- a tile is visited: its sites topple, and the grains that leave it are under way
pub visited_wave : {g : Grid} {site : ℕ} {h free : ℕ → ℕ} {τ : ℕ → Tile} {away : ℕ → ℕ → ℕ} {t : Tile} {k start new : ℕ}
    {b : Beside} (s : ℕ) (more : ℕ → ℕ → ℕ) → IsStart g site h free → IsUnderWay g site h τ away
    → Starts g site s k start → toppled g τ site + s ≤ 1
    → IsInner g k → IsBeside g k b → Visits (τ k) t (free k) start new → new < 2 ^ 64
    → ((m p : ℕ) → more m p ≡ away m p + over_rim b new m p)
    → HasToppled g site h τ (put k t τ) more k new
visited_wave {g} {site} {free = free} {τ} {t = t} {k} {start} {new} {b} s more from wave begins first ik beside visits
    fits sums =
    let u = toppled g τ in let v = toppled g (put k t τ) in
    let n : ℕ → ℕ = at_site g (only k (bit new)) in
    let pays : (m : ℕ) → Pays (τ m) (put k t τ m) (free m) (only k (bit new) m) =
    pays_put free τ k start new t visits in
    let sum : (j : ℕ) → v j ≡ u j + n j = λ j. (pays (tile_of g j)).once (place_of g j) (place_below g j) in
    let flows : (j : ℕ) → j < sites g → flow g v j ≡ flow g u j
    + (around (only k (bit new) (tile_of g j)) (place_of g j) + over_rim b new (tile_of g j) (place_of g j)) =
    λ j l. flow_same g v (λ i. u i + n i) (λ i m. sum i) j l ∙ flow-add g u n j
    ∙ ap (λ f. flow g u j + f) (gained g k new b j l ik beside fits
    (λ y x less out. newly from k s begins visits (tile g y x) (place y x) (omega arith)
    ∙ on_tiles_blank g n y x less out)) in
    record {
      wave = record {
        inside = λ m p l. omega
            (arith, (pays m).once p l, newly from k s begins visits m p l, on_sum g u n v m p l (λ j less. sum j));
        at_open = λ j l ne.
            let pays' = (pays (tile_of g j)).at_open (place_of g j) (place_below g j) (free_at from j l ne) in
            omega (arith, flows j l, sums (tile_of g j) (place_of g j));
        at_held =
            let pays' = (pays (tile_of g site)).modulo (place_of g site) (place_below g site) in
            omega (arith, flows site from.inside, sums (tile_of g site) (place_of g site));
        needed = λ w covers j l. omega (arith, sum j, needed_next from s wave begins first w covers visits j l);
      };
      once = sum;
    }
