-- One step of a wave: a tile is visited, and the grains of its topplings reach all neighbours.
use Rattle.sand_fronts.proofs.Common.{ℕ, true, cond, ◌≡◌, ◌≢◌, ◌+◌, ◌-◌, ◌*◌, ◌%◌, ◌<◌, ◌≤◌, sym, ◌∙◌, ap, arith, cases_eq, eq-eqb, ne_eqb, nat_tests, Grid, sites, flow, one_at, flow_le, flow_same, flow-add, flow_ones, one_at_other, Tile, bit, height, had, around, unused, IsReady, Calms, Visits, bit_le, tile_of, place_of, is_site, site_on, at_site, toppled, AreOpen, IsWave, Gains, Covers}
use Rattle.sand_tiles.proofs.Around.{around_le}
use Rattle.sand_fronts.specs.Tiling.{on_tiles}
use Rattle.sand_fronts.specs.Waves.{only}
use Rattle.sand_fronts.proofs.NeighboursOnTiles.{flow_on_tiles}
use Rattle.sand_fronts.proofs.OnTiles.{place_below, there_again, at_on, on_tiles_blank, on_tiles_le, on_tiles_is, on_site, off_site, on_each, height_low}

pub only_same : (k m : ℕ) (f : ℕ → ℕ) (p : ℕ) → m ≡ k → only k f m p ≡ f p
unfolding only
only_same k m f p e = ap (λ b. cond b (f p) 0) (eq-eqb m k e)

pub only_other : (k m : ℕ) (f : ℕ → ℕ) (p : ℕ) → (m ≡ k → ⊥) → only k f m p ≡ 0
unfolding only
only_other k m f p ne = ap (λ b. cond b (f p) 0) (ne_eqb m k ne)

flow_four_at_most : (g : Grid) (u : ℕ → ℕ) → ((j : ℕ) → j < sites g → u j ≤ 1) → (j : ℕ) → j < sites g → flow g u j ≤ 4
flow_four_at_most g u few j l = omega (arith, flow_le g u (λ m. 1) few j l, flow_ones g j)

around_some : (g : Grid) (v : ℕ → ℕ) (j : ℕ) → j < sites g
    → around (on_tiles g v (tile_of g j)) (place_of g j) ≤ flow g v j
around_some g v j l =
    let same = flow_same g (at_site g (on_tiles g v)) v (λ i m. at_on g v i m) j l in
    omega (arith, flow_on_tiles g (on_tiles g v) j (on_tiles_blank g v) l)

-- what each wave of a drop begins with: the heights h, at most 3 at each other site, and all other sites free
pub record IsStart (g : Grid) (site : ℕ) (h : ℕ → ℕ) (free : ℕ → ℕ) : Type 0 where
  pub inside : site < sites g
  pub low : (j : ℕ) → j < sites g → j ≢ site → h j ≤ 3
  pub all_open : AreOpen g site free

-- the places of tile k that start: that of the dropped site, or none
abbrev pub Starts : Grid → ℕ → ℕ → ℕ → ℕ → Type 0
Starts g site s k start = (p : ℕ) → p < 64 → bit start p ≡ on_tiles g (λ j. s * one_at site j) k p

-- the state of a wave of which grains are under way, by the tile and the place that they reach
pub record IsUnderWay (g : Grid) (site : ℕ) (h : ℕ → ℕ) (τ : ℕ → Tile) (away : ℕ → ℕ → ℕ) : Type 0 where
  pub inside : (k p : ℕ) → p < 64 → bit (τ k).wave p ≡ on_tiles g (toppled g τ) k p
  pub at_open : (j : ℕ) → j < sites g → j ≢ site
      → had (τ (tile_of g j)) (place_of g j) + away (tile_of g j) (place_of g j) ≡ h j + flow g (toppled g τ) j
  pub at_held : (height (τ (tile_of g site)) (place_of g site) + away (tile_of g site) (place_of g site)) % 4
      ≡ (h site + flow g (toppled g τ) site) % 4
  pub needed : (w : ℕ → ℕ) → Covers g site h w → (j : ℕ) → j < sites g → toppled g τ j ≤ w j

pub arrived : {g : Grid} {site : ℕ} {h : ℕ → ℕ} {τ : ℕ → Tile} → IsUnderWay g site h τ (λ m p. 0) → IsWave g site h τ
arrived {g} {site} {τ = τ} wave = record {
  inside = wave.inside;
  at_open = λ j l ne. omega arith;
  at_held = omega (arith, height_low (τ (tile_of g site)) (place_of g site));
  needed = wave.needed;
}

-- a free place is a site that is not held
pub record IsFreeSite (g : Grid) (site k p : ℕ) : Type 0 where
  pub is : is_site g k p ≡ true
  pub other : site_on g k p ≢ site

pub open_site : (g : Grid) (site : ℕ) (free : ℕ → ℕ) (k p : ℕ) → AreOpen g site free → p < 64 → bit (free k) p ≡ 1
    → IsFreeSite g site k p
unfolding on_tiles
open_site g site free k p open' low is = record {
  is = grind (arith, nat_tests);
  other = λ same. grind (arith, nat_tests);
}

module _ {g : Grid} {site : ℕ} {h free : ℕ → ℕ} (from : IsStart g site h free) where
  pub free_at : (j : ℕ) → j < sites g → j ≢ site → bit (free (tile_of g j)) (place_of g j) ≡ 1
  free_at j l ne =
      let open' = from.all_open (tile_of g j) (place_of g j) (place_below g j) in
      omega (arith, at_on g (λ i. 1 - one_at site i) j l, one_at_other site j (λ e. ne (sym e)))

  -- a tile is ready for a visit
  pub wave_ready : {τ : ℕ → Tile} (k start s : ℕ) → IsUnderWay g site h τ (λ m p. 0) → Starts g site s k start
      → toppled g τ site + s ≤ 1 → IsReady (τ k) (free k) start
  wave_ready {τ} k start s wave begins first =
      let t = toppled g τ in let rest : ℕ → ℕ = λ j. 1 - t j in
      let each : (q : ℕ) → q < 64 → (unused (free k) start (τ k).wave q ≤ on_tiles g rest k q)
      × (bit start q ≡ 1 → (bit (free k) q ≡ 0) × (bit (τ k).wave q ≡ 0)) = λ q l.
      on_each g k q (λ (r : (ℕ → ℕ) → ℕ). bit (free k) q ≡ r (λ j. 1 - one_at site j)
      → bit start q ≡ r (λ j. s * one_at site j) → bit (τ k).wave q ≡ r t
      → (unused (free k) start (τ k).wave q ≤ r rest)
      × (bit start q ≡ 1 → (bit (free k) q ≡ 0) × (bit (τ k).wave q ≡ 0))) l
      (λ j m o b i. (
        omega (arith, bit_le (free k) q, bit_le start q),
        λ is. (grind (arith, nat_tests), grind (arith, nat_tests)),
      ))
      (λ o b i. (omega arith, λ is. absurd (omega arith))) (from.all_open k q l) (begins q l) (wave.inside k q l) in
      record {
        low = λ p l is.
            let yes = open_site g site free k p from.all_open l is in
            let at = there_again g k p l yes.is in let j = site_on g k p in
            let open' = rw (at.tile, at.place) at (wave.at_open j at.inside yes.other) in
            let le = around_le (unused (free k) start (τ k).wave) (on_tiles g rest k) p l (λ q m. (each q m).0) in
            let some = rw (at.tile, at.place) at (around_some g rest j at.inside) in
            let most = flow_four_at_most g (λ i. t i + rest i)
            (λ i m. omega (arith, bit_le (τ (tile_of g i)).wave (place_of g i))) j at.inside in
            omega (arith, from.low j at.inside yes.other, flow-add g t rest j);
        held = λ p l. (each p l).1;
      }

  -- only sites topple in a visit
  pub newly : {t u : Tile} {start new : ℕ} (k s : ℕ) → Starts g site s k start → Visits t u (free k) start new
      → (m p : ℕ) → p < 64 → only k (bit new) m p ≡ on_tiles g (at_site g (only k (bit new))) m p
  unfolding only on_tiles
  newly {new = new} k s begins visits m p low =
      on_tiles_is g (only k (bit new)) m p low (λ no. grind (arith, nat_tests))

  module _ {τ : ℕ → Tile} {away : ℕ → ℕ → ℕ} {k start : ℕ} (s : ℕ) (wave : IsUnderWay g site h τ away)
      (begins : Starts g site s k start) (first : toppled g τ site + s ≤ 1)
      (w : ℕ → ℕ) (covers : Covers g site h w) where
    -- whatever covers the heights leaves no 4 in this tile
    calm : Calms (τ k) (free k) start (on_tiles g (λ j. w j - toppled g τ j) k)
    calm =
        let t = toppled g τ in let rest : ℕ → ℕ = λ j. w j - t j in
        let below = wave.needed w covers in
        record {
          start_in = λ p low.
              let some : s ≤ w site - t site = omega (arith, first, covers.started) in
              let most = on_tiles_le g (λ j. s * one_at site j) rest k p low
              (λ j l. let e = cases_eq site j in grind (arith, nat_tests)) in
              omega (arith, begins p low);
          at_most_three = λ p low is.
              let yes = open_site g site free k p from.all_open low is in
              let at = there_again g k p low yes.is in let j = site_on g k p in
              let open' = rw (at.tile, at.place) at (wave.at_open j at.inside yes.other) in
              let three = covers.at_most_three j at.inside yes.other in
              let some = rw (at.tile, at.place) at (around_some g rest j at.inside) in
              let site = on_site g rest k p yes.is in
              let same = flow_same g (λ i. t i + rest i) w (λ i l. omega (arith, below i l)) j at.inside in
              omega (arith, below j at.inside, on_site g t k p yes.is, wave.inside k p low, flow-add g t rest j);
        }

    -- and topples the sites that topple in a visit
    pub needed_next : {u : Tile} {new : ℕ} → Visits (τ k) u (free k) start new → (j : ℕ) → j < sites g
        → toppled g τ j + at_site g (only k (bit new)) j ≤ w j
    unfolding only
    needed_next visits j l =
        let rest : ℕ → ℕ = λ i. w i - toppled g τ i in
        let least = visits.least (on_tiles g rest k) calm (place_of g j) (place_below g j) in
        let value = at_on g rest j l in let below = wave.needed w covers j l in
        grind (arith, nat_tests)

  -- the grains under way arrive
  pub handed_over : {τ σ : ℕ → Tile} {away : ℕ → ℕ → ℕ} → IsUnderWay g site h τ away → Gains free τ σ away
      → IsUnderWay g site h σ (λ m p. 0)
  handed_over {τ} {σ} wave gains =
      let t = toppled g τ in
      let same : (j : ℕ) → toppled g σ j ≡ t j =
      λ j. gains.wave (tile_of g j) (place_of g j) (place_below g j) in
      let flows = flow_same g (toppled g σ) t (λ i l. same i) in
      record {
        inside = λ m p l. on_tiles_is g (λ k q. bit (σ k).wave q) m p l
            (λ no. gains.wave m p l ∙ wave.inside m p l ∙ off_site g t m p no);
        at_open = λ j l ne.
            let four = flow_four_at_most g t (λ i m. bit_le _ _) j l in
            let has = wave.at_open j l ne in let low = from.low j l ne in
            let each' = gains.each (tile_of g j) (place_of g j) (place_below g j) (free_at j l ne) (omega arith) in
            omega (arith, flows j l);
        at_held =
            let modulo' = gains.modulo (tile_of g site) (place_of g site) (place_below g site) in
            omega (arith, wave.at_held, flows site from.inside);
        needed = λ w covers j l. omega (arith, same j, wave.needed w covers j l);
      }
