-- How a wave begins, the heights after it, and when the next one follows.
use Rattle.sand_fronts.proofs.Common.{ℕ, ◌≡◌, ◌≢◌, ◌+◌, ◌-◌, ◌*◌, ◌<◌, ◌≤◌, sym, ◌∙◌, arith, cases_eq, nat_tests, Grid, sites, Stabilises, IsToppled, flow, one_at, flow_le, flow_same, flow-add, flow-one_at, flow_none, flow_ones, weight_after, laplacian_sum, sum_below_same, sum_below-add, one_at_same, one_at_other, one_at_comm, Tile, bit, height, bit_le, tile_of, place_of, IsOneWave, toppled, IsWholeWave, AreAtRest, heights_before}
use Rattle.sand_model.specs.Underway.{Advances}
use Rattle.sand_fronts.proofs.OnTiles.{place_below, on_tiles_is, height_low}
use Rattle.sand_fronts.proofs.Waves.{IsUnderWay}
use Rattle.sand_fronts.proofs.WaveSizes.{covers_of}

-- before the first toppling
pub first_wave : (g : Grid) (site : ℕ) (τ : ℕ → Tile) → AreAtRest g site τ → site < sites g
    → IsUnderWay g site (heights_before g site τ) τ (λ m p. 0)
first_wave g site τ rest inside =
    let none : (j : ℕ) → toppled g τ j ≡ 0 = λ j. rest.quiet.clear (tile_of g j) (place_of g j) (place_below g j) in
    let no_flow : (j : ℕ) → j < sites g → flow g (toppled g τ) j ≡ 0 =
    λ j l. flow_none g (toppled g τ) j (λ i m. none i) l in
    record {
      inside = λ m p low. on_tiles_is g (λ k q. bit (τ k).wave q) m p low (λ no. rest.quiet.clear m p low);
      at_open = λ j l ne.
          let due = rest.quiet.none_due (tile_of g j) (place_of g j) (place_below g j) in
          omega (arith, one_at_other site j (λ e. ne (sym e)), no_flow j l, none j);
      at_held = omega
          (arith, one_at_same site, no_flow site inside, height_low (τ (tile_of g site)) (place_of g site));
      needed = λ w covers j l. omega (arith, none j);
    }

-- before a wave the dropped site has 4
pub has_four : (g : Grid) (site : ℕ) (τ : ℕ → Tile) → 4 ≤ heights_before g site τ site
has_four g site τ = omega (arith, one_at_same site)

one_at_le : (v : ℕ → ℕ) (i j : ℕ) → 1 ≤ v i → one_at i j ≤ v j
one_at_le v i j some = grind (arith, nat_tests)

-- a whole wave from the tiles ρ to the tiles τ
pub record HasPassed (g : Grid) (site : ℕ) (ρ τ : ℕ → Tile) : Type 0 where
  pub inside : site < sites g
  pub empty : height (ρ (tile_of g site)) (place_of g site) ≡ 0
  pub whole : IsWholeWave g site ρ τ

-- the heights after a wave: those in the planes, and what the held site has after its toppling
pub record Leaves (g : Grid) (site : ℕ) (h : ℕ → ℕ) (τ : ℕ → Tile) (k : ℕ → ℕ) : Type 0 where
  pub others : (j : ℕ) → j < sites g → j ≢ site → k j ≡ height (τ (tile_of g j)) (place_of g j)
  pub held : k site + 4 ≡ h site + flow g (toppled g τ) site

module _ {g : Grid} {site : ℕ} {ρ τ : ℕ → Tile} (past : HasPassed g site ρ τ) where
  -- the height of each site in the end
  pub wave_balance : {k : ℕ → ℕ} → Leaves g site (heights_before g site ρ) τ k
      → (j : ℕ) → j < sites g → k j + 4 * toppled g τ j ≡ heights_before g site ρ j + flow g (toppled g τ) j
  wave_balance {k} leaves j l =
      let either = cases_eq j site in
      let due = past.whole.none_due (tile_of g j) (place_of g j) (place_below g j) in
      grind (arith, past.whole.started, leaves.others j l, past.whole.wave.at_open j l)

  -- it is one wave, by the definition
  pub one_wave : {k : ℕ → ℕ} → Leaves g site (heights_before g site ρ) τ k
      → IsOneWave g site (heights_before g site ρ) (toppled g τ) k
  one_wave {k} leaves = record {
    due = has_four g site ρ;
    started = past.whole.started;
    once = λ j l. bit_le (τ (tile_of g j)).wave (place_of g j);
    toppled = record { balance = wave_balance leaves };
    others_rest = λ j l ne. omega (arith, leaves.others j l ne, height_low (τ (tile_of g j)) (place_of g j));
    needed = past.whole.wave.needed;
  }

  -- the wave was a legal sequence of topplings
  pub wave_advances : {k : ℕ → ℕ} (u v : ℕ → ℕ) → Leaves g site (heights_before g site ρ) τ k
      → ((j : ℕ) → j < sites g → v j ≡ u j + toppled g τ j) → Advances g u (heights_before g site ρ) v k
  wave_advances {k} u v leaves sums =
      let h = heights_before g site ρ in
      let t = toppled g τ in
      let balance = wave_balance leaves in
      let toppled' : IsToppled g h t k = record { balance = balance } in
      let all = sum_below_same (sites g) v (λ j. u j + t j) sums ∙ sum_below-add (sites g) u t in
      record {
        underway = λ s before. record {
          toppled = record {
            balance = λ j l. omega (arith, balance j l, flow_same g v (λ i. u i + t i) sums j l ∙ flow-add g u t j);
          };
          bounded = λ w stable j l.
              let below = before.bounded w stable in
              let rest : Stabilises g h (λ i. w i - u i) = record {
                at_most_three = λ i m.
                    let same = flow_same g (λ n. u n + (w n - u n)) w (λ n x. omega arith) i m in
                    omega (arith, below i m, flow-add g u (λ n. w n - u n) i);
              } in
              omega (
                arith,
                past.whole.wave.needed (λ i. w i - u i)
                    (covers_of site past.inside (has_four g site ρ) rest) j l,
                below j l,
              );
        };
        weight_pays = omega (arith, weight_after g h t k toppled');
        grains_fall = omega (arith, laplacian_sum g h t k toppled');
      }

  -- if the held site is 0 in the planes and others have toppled, all its neighbours have
  pub four_again : (i : ℕ) → height (τ (tile_of g site)) (place_of g site) ≡ 0
      → i < sites g → i ≢ site → 1 ≤ toppled g τ i → flow g (toppled g τ) site ≡ 4
  four_again i empty li ni some =
      let inside = past.inside in let held = past.whole.wave.at_held in let t = toppled g τ in
      let most = flow_le g t (λ j. 1) (λ j l. bit_le _ _) site inside in
      let ones = flow_ones g site in
      let alone : flow g t site ≡ 0 → Stabilises g (heights_before g site ρ) (one_at site) = λ none. record {
        at_most_three = λ j l.
            let less = flow_le g (one_at site) t (λ m x. one_at_le t site m (omega (arith, past.whole.started))) j l in
            let few = λ (one : 1 ≤ t j). flow_le g (λ m. one_at m j) t
            (λ m x. omega (arith, one_at_comm m j, one_at_le t j m one)) site inside in
            let either = cases_eq j site in
            let due = past.whole.none_due (tile_of g j) (place_of g j) (place_below g j) in
            let turned = flow-one_at g site j inside l in let low = height_low (ρ (tile_of g j)) (place_of g j) in
            let low' = height_low (τ (tile_of g j)) (place_of g j) in
            grind (arith, nat_tests, past.whole.started, past.empty, past.whole.wave.at_open j l);
      } in
      let nonzero : flow g t site ≢ 0 = λ none.
      let covers = covers_of site inside (has_four g site ρ) (alone none) in
      omega (arith, past.whole.wave.needed (one_at site) covers i li, one_at_other site i (λ e. ni (sym e))) in
      omega arith
