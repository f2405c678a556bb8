-- How far a drop has reached.
use Rattle.sand_fronts.proofs.Common.{ℕ, true, cond, eqb, ltb, ◌≡◌, ◌≢◌, ◌⊎◌, ◌+◌, ◌*◌, ◌^◌, ◌<◌, ◌≤◌, max, ◌∙◌, ap, arith, ⊎_elim, bit_xor, trailing_zeros, w64, bit_at-trailing_zeros, cases_lt, nat_tests, div-mul-add, mod-mul-add, mod_below, div_below, Grid, IsGrid, sites, sum_below, one_at, one_if, sum_below_same, sum_below-add, sum_below-one_at, bit_le, bit_none, half, both_le, Spot, AreSites, AreToppled, tile_of, place_of, row_at, column_at, is_site}
use Rattle.sand_model.specs.Grid.{distance}
use Rattle.sand_tiles.specs.Places.{bit}
use Rattle.sand_fronts.specs.Reaching.{distance_within, spot_of, corner_of, HasPlaceAt, IsReachedFrom, IsReachedIn}
use Rattle.sand_fronts.specs.Avalanches.{IsReached}
use Rattle.sand_fronts.specs.Tiling.{site_on}
use Rattle.sand_fronts.proofs.OnTiles.{place_below, back_again, there_again, in_grid, at_on, on_site}

-- ---- place by place

-- a place is in a set
pub record IsIn (set place : ℕ) : Type 0 where
  pub low : place < 64
  pub is : bit set place ≡ 1

pub lowest : (n : ℕ) → n ≢ 0 → n < 2 ^ 64 → IsIn n (trailing_zeros w64 n)
unfolding bit
lowest n some fits = let l = bit_at-trailing_zeros w64 n (omega arith) fits in record { low = l.0; is = l.1 }

-- a place is taken out of a set
pub record IsTaken (rest next place : ℕ) : Type 0 where
  pub inside : place < 64
  pub was : bit rest place ≡ 1
  pub each : (p : ℕ) → p < 64 → bit next p + one_at place p ≡ bit rest p

-- the first place of a set
pub taken : (rest one : ℕ) → rest ≢ 0 → rest < 2 ^ 64
    → ((p : ℕ) → p < 64 → bit one p ≡ one_at (trailing_zeros w64 rest) p)
    → IsTaken rest (bit_xor rest one) (trailing_zeros w64 rest)
taken rest one some fits is =
    let place = trailing_zeros w64 rest in
    let first = lowest rest some fits in
    record {
      inside = first.low;
      was = first.is;
      each = λ p low.
          let h = half rest one p in
          let b = both_le rest one p in
          grind (arith, nat_tests);
    }

pub fewer_left : {rest next place : ℕ} → IsTaken rest next place → sum_below 64 (bit next) < sum_below 64 (bit rest)
fewer_left {rest} {next} {place} gone =
    let same = sum_below_same 64 (λ p. bit next p + 1 * one_at place p) (bit rest) (λ p low. omega arith) in
    omega (arith, sum_below-add 64 (bit next) (λ p. 1 * one_at place p), sum_below-one_at 64 place (λ p. 1) gone.inside)

-- the places of a set that are no longer in the rest have been read
pub record Reads (g : Grid) (s corner : Spot) (set rest reach far : ℕ) : Type 0 where
  pub within_set : (p : ℕ) → p < 64 → bit rest p ≤ bit set p
  pub grows : reach ≤ far
  pub done : (p : ℕ) → p < 64 → bit set p ≡ 1 → bit rest p ≡ 0 → distance_within g s corner p ≤ far
  pub reached : reach < far → HasPlaceAt g s corner set far

pub reads_more : {g : Grid} {s corner : Spot} {set rest next reach far place : ℕ} (d now : ℕ)
    → Reads g s corner set rest reach far → IsTaken rest next place
    → d ≡ distance_within g s corner place → now ≡ max far d → Reads g s corner set next reach now
reads_more {set = set} {far = far} {place = place} d now before gone there most = record {
  within_set = λ p low. omega (arith, before.within_set p low, gone.each p low);
  grows = omega (arith, before.grows);
  done = λ p low has none. let a = before.done p low has in grind (arith, nat_tests);
  reached = λ more. ⊎_elim
      (λ (farther : far < d).
      record { place = place; low = gone.inside; is = omega (arith, bit_le set place); there = omega arith })
      (λ (not : d ≤ far). let old = before.reached (omega arith) in
      record { place = old.place; low = old.low; is = old.is; there = omega arith })
      (cases_lt far d);
}

-- ---- tile by tile

-- the sets that are no longer in the rest have been read
pub record SetsRead (g : Grid) (s : Spot) (words rest : ℕ → ℕ) (reach : ℕ) : Type 0 where
  pub left : (m : ℕ) → (rest m ≡ 0) ⊎ (rest m ≡ words m)
  pub within : (m p : ℕ) → rest m ≡ 0 → p < 64 → bit (words m) p ≡ 1 → distance_within g s (corner_of g m) p ≤ reach
  pub reached : 0 < reach → (m : ℕ) × HasPlaceAt g s (corner_of g m) (words m) reach

pub sets_more : {g : Grid} {s : Spot} {words rest : ℕ → ℕ} (next : ℕ → ℕ) (k : ℕ) {set reach far : ℕ}
    → SetsRead g s words rest reach → IsReachedFrom g s (corner_of g k) set reach far → set ≡ rest k
    → ((m : ℕ) → next m ≡ cond (eqb m k) 0 (rest m)) → SetsRead g s words next far
sets_more {g} {s} {words} {rest} next k {set} {reach} {far} before one is each =
    record {
      left = λ m. let l = before.left m in let e = each m in grind (arith, nat_tests);
      within = λ m p none low has.
          let l = before.left m in
          let e = each m in
          let old = before.within m p in
          let new = one.within p low in
          grind (arith, nat_tests);
      reached = λ some. ⊎_elim
          (λ (farther : reach < far).
          let now = one.reached farther in
          let l = before.left k in
          let z = bit_none now.place in
          let has = now.is in
          (k, record { place = now.place; low = now.low; is = grind arith; there = now.there }))
          (λ (not : far ≤ reach). let (m, old) = before.reached (omega arith) in
          (m, record { place = old.place; low = old.low; is = old.is; there = omega arith }))
          (cases_lt reach far);
    }

-- ---- site by site

distance_on : (g : Grid) (site k p : ℕ) → is_site g k p ≡ true
    → distance g site (site_on g k p) ≡ distance_within g (spot_of g site) (corner_of g k) p
unfolding distance site_on
distance_on g site k p is =
    let y = row_at g k p in
    let x = column_at g k p in
    let wide = (in_grid g k p is).wide in
    rw (mod-mul-add y g.width x wide, div-mul-add y g.width x wide)

-- a place is in the sets if and only if its site has toppled, so what is within reach of them is so for the sites
pub all_within : (g : Grid) (site : ℕ) (v : ℕ → ℕ) {words : ℕ → ℕ} {reach : ℕ} → AreToppled g v words
    → IsReachedIn g (spot_of g site) words reach → (j : ℕ) → j < sites g → 0 < v j → distance g site j ≤ reach
all_within g site v {words} each in_sets j l some =
    let k = tile_of g j in
    let p = place_of g j in
    let marked = each k p (place_below g j) in
    let at = at_on g (λ i. one_if (ltb 0 (v i))) j l in
    let back = back_again g j l in
    omega (
      arith,
      in_sets.within k p (place_below g j) (grind (arith, nat_tests)),
      distance_on g site k p back.0,
      ap (distance g site) back.1,
    )

-- a site that is reached
record Farthest (g : Grid) (site : ℕ) (words : ℕ → ℕ) (reach : ℕ) : Type 0 where
  tile : ℕ
  here : HasPlaceAt g (spot_of g site) (corner_of g tile) (words tile) reach
  is : is_site g tile here.place ≡ true
  inside : site_on g tile here.place < sites g
  distant : distance g site (site_on g tile here.place) ≡ reach

farthest_site : (g : Grid) (site : ℕ) {words : ℕ → ℕ} {reach : ℕ} → AreSites g words
    → IsReachedIn g (spot_of g site) words reach → 0 < reach → Farthest g site words reach
farthest_site g site are in_sets far =
    let (m, p) = in_sets.reached far in
    let is = are m p.place p.low p.is in
    record {
      tile = m;
      here = p;
      is = is;
      inside = (there_again g m p.place p.low is).inside;
      distant = distance_on g site m p.place is ∙ p.there;
    }

pub some_reached : (g : Grid) (site : ℕ) (v : ℕ → ℕ) {words : ℕ → ℕ} {reach : ℕ} → AreSites g words
    → AreToppled g v words → IsReachedIn g (spot_of g site) words reach → 0 < reach → IsReached g site v reach
some_reached g site v are each in_sets far =
    let one = farthest_site g site are in_sets far in
    let has = one.here.is in
    let marked = each one.tile one.here.place one.here.low in
    let own = on_site g (λ i. one_if (ltb 0 (v i))) one.tile one.here.place one.is in
    record {
      at = site_on g one.tile one.here.place;
      inside = one.inside;
      topples = grind (arith, nat_tests);
      away = one.distant;
    }

-- ---- the reach fits into 32 bits

near : (g : Grid) (i j : ℕ) → IsGrid g → i < sites g → j < sites g → distance g i j < 16384
unfolding distance
near g i j sides inside there =
    let a = mod_below i g.width (omega arith) in
    let b = mod_below j g.width (omega arith) in
    let c = div_below i g.width g.height (omega arith) (omega arith) in
    let d = div_below j g.width g.height (omega arith) (omega arith) in
    grind arith

pub small_reach : (g : Grid) (site : ℕ) {words : ℕ → ℕ} {reach : ℕ} → IsGrid g → site < sites g → AreSites g words
    → IsReachedIn g (spot_of g site) words reach → reach < 2 ^ 32
small_reach g site {words} {reach} sides inside at in_sets = ⊎_elim
    (λ (far : 0 < reach). let one = farthest_site g site at in_sets far in
    omega (arith, near g site (site_on g one.tile one.here.place) sides inside one.inside))
    (λ (none : reach ≤ 0). omega arith)
    (cases_lt 0 reach)
