-- A grain added at a site of a stable pile on tiles.
use Rattle.sand_fronts.proofs.Common.{ℕ, eqb, List, length, get_or, ◌≡◌, ◌≢◌, ◌+◌, ◌-◌, ◌%◌, ◌<◌, ◌≤◌, refl, sym, ◌∙◌, ap, arith, bit_xor, slice_index, set, cases_eq, nat_tests, get_or_read, get_or-set_other, length-set, Grid, sites, IsSettled, one_at, settled_same, underway_start, underway_end, at_most_one, Tile, bit, Receives, bit_le, half, both_le, tile_of, place_of, on_tiles, tile_at, only, AreOpen, AreAllOpen, Gains, heights_before, heights_on, AreQuiet}
use Rattle.sand_fronts.proofs.OnTiles.{place_below, at_on, on_sum, height_low}
use Rattle.sand_fronts.proofs.OneSite.{IsPlace, placed}
use Rattle.sand_fronts.proofs.Waves.{only_same, only_other}
use Rattle.sand_fronts.proofs.Gained.{set_each, tile_read, gains_one}

-- nothing topples on a stable pile
pub calm_settled : (g : Grid) (s u t : ℕ → ℕ) → ((j : ℕ) → j < sites g → t j ≡ s j)
    → ((j : ℕ) → j < sites g → u j ≡ 0) → ((j : ℕ) → j < sites g → t j ≤ 3) → IsSettled g s u t
calm_settled g s u t same none low =
    settled_same g s s u u s t (λ j l. refl) (λ j l. refl) (λ j l. sym (same j l))
    (underway_end g s u s (underway_start g s u none) (λ j l. omega (arith, same j l, low j l)))

-- the tile of the site becomes t, with one grain more, in the list ts of tiles; the site is not free
pub record GetsGrain (g : Grid) (site : ℕ) (ts : List Tile) (here grain free : ℕ) (was t : Tile) : Type 0 where
  pub place : IsPlace g site here grain
  pub inside : here < length ts
  pub read : was ≡ get_or ts here was
  pub held : (p : ℕ) → p < 64 → bit free p + bit grain p ≤ 1
  pub receives : Receives was t grain free
  pub quiet : AreQuiet (tile_at ts)

module _ {g : Grid} {site : ℕ} {ts : List Tile} {here grain free : ℕ} {was t : Tile}
    (gets : GetsGrain g site ts here grain free was t) where
  gains : Gains (λ m. free) (tile_at ts) (tile_at (set ts here t)) (only here (bit grain))
  gains = gains_one (λ m. free) ts here t grain gets.inside
      (rw (tile_read ts here was gets.inside gets.read) at gets.receives)

  -- the planes have the heights modulo 4
  grain_heights : (j : ℕ) → j < sites g
      → heights_on g (tile_at (set ts here t)) j ≡ (heights_on g (tile_at ts) j + one_at site j) % 4
  grain_heights j l =
      let low = place_below g j in
      let placed' = placed (tile_of g j) (place_of g j) gets.place low in
      omega (arith, gains.modulo (tile_of g j) (place_of g j) low, at_on g (one_at site) j l)

  -- if the site has fewer than 3, the grain is added, and no other height changes
  pub grain_added : heights_on g (tile_at ts) site < 3 → (j : ℕ) → j < sites g
      → heights_on g (tile_at (set ts here t)) j ≡ heights_on g (tile_at ts) j + one_at site j
  grain_added few j l =
      let either = cases_eq j site in
      grind (arith, nat_tests, grain_heights j l, height_low (tile_at ts (tile_of g j)) (place_of g j))

  -- a place that is free gets no grain, and a place that is not free is never due
  pub calm_quiet : AreQuiet (tile_at (set ts here t))
  calm_quiet = record {
    clear = λ m p low. gains.wave m p low ∙ gets.quiet.clear m p low;
    none_due = λ m p low.
        let clear = gets.quiet.clear m p low in let none = gets.quiet.none_due m p low in
        let held = gets.held p low in
        let either = cases_eq m here in
        let low' = height_low (tile_at ts m) p in
        let free' = gains.due_free (λ k q l. omega (arith, gets.quiet.none_due k q l)) m p low in
        let same = only_same here m (bit grain) p in let other = only_other here m (bit grain) p in
        grind (arith, bit_le free p, gains.wave m p low, gains.modulo m p low, gains.each m p low);
  }

  -- if the site has no 4, it had fewer than 3
  pub few_before : heights_on g (tile_at (set ts here t)) site ≢ 0 → heights_on g (tile_at ts) site < 3
  few_before some =
      let low = height_low (tile_at ts (tile_of g site)) (place_of g site) in
      grind (arith, nat_tests, grain_heights site gets.place.site_inside)

  -- if the site is 0 in the planes, it has 4
  pub due_heights : heights_on g (tile_at (set ts here t)) site ≡ 0 → (j : ℕ) → j < sites g
      → heights_before g site (tile_at (set ts here t)) j ≡ heights_on g (tile_at ts) j + one_at site j
  due_heights empty j l =
      let either = cases_eq j site in
      grind (arith, nat_tests, grain_heights j l, height_low (tile_at ts (tile_of g j)) (place_of g j))

-- ---- the word of the site's tile, without the site and with it

-- the word of the tile of a site, and the set of the site's place
pub record IsWordOf (g : Grid) (site here grain whole : ℕ) (free : List ℕ) : Type 0 where
  pub place : IsPlace g site here grain
  pub within : here < length free
  pub read : whole ≡ get_or free here whole
  pub all : AreAllOpen g (slice_index free)

module _ {g : Grid} {site here grain whole : ℕ} {free : List ℕ} (word : IsWordOf g site here grain whole free) where
  is_whole : whole ≡ get_or free here 0
  is_whole = get_or_read free here whole word.within word.read 0

  -- the places of a tile that stay free, and the site's
  but_site : (k p : ℕ) → p < 64
      → bit (get_or free k 0) p ≡ on_tiles g (λ j. 1 - one_at site j) k p + only here (bit grain) k p
  but_site k p low =
      let sum = on_sum g (λ j. 1 - one_at site j) (one_at site) (λ j. 1) k p low
      (λ j l. omega (arith, at_most_one (eqb site j))) in
      omega (arith, word.all k p low, placed k p word.place low)

  -- the word without the site
  pub without : (p : ℕ) → p < 64 → (bit (bit_xor whole grain) p ≡ on_tiles g (λ j. 1 - one_at site j) here p)
      × (bit (bit_xor whole grain) p + bit grain p ≤ 1)
  without p low =
      let b = both_le whole grain p in
      let b0 = b.0 in let b1 = b.1 in let b2 = b.2 in
      let split = but_site here p low ∙ ap (λ n. on_tiles g (λ j. 1 - one_at site j) here p + n)
      (only_same here here (bit grain) p refl) in
      let h = ap (λ w. bit w p) is_whole in
      (omega (arith, half whole grain p, bit_le whole p), omega (arith, half whole grain p))

  pub taken_out : AreOpen g site (slice_index (set free here (bit_xor whole grain)))
  taken_out = set_each 0 (λ k w. (p : ℕ) → p < 64 → bit w p ≡ on_tiles g (λ j. 1 - one_at site j) k p)
      free here (bit_xor whole grain) word.within (λ p low. (without p low).0)
      (λ k ne p low. omega (arith, but_site k p low, only_other here k (bit grain) p ne))

  pub put_back : (x : ℕ) → AreAllOpen g (slice_index (set (set free here x) here whole))
  put_back x = set_each 0 (λ k w. (p : ℕ) → p < 64 → bit w p ≡ on_tiles g (λ j. 1) k p) (set free here x) here whole
      (omega (arith, length-set free here x, word.within))
      (λ p low. ap (λ w. bit w p) is_whole ∙ word.all here p low)
      (λ k ne p low. ap (λ w. bit w p) (get_or-set_other free here k x 0 ne) ∙ word.all k p low)
