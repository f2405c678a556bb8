-- From one wave of a drop to the next.
use Rattle.sand_fronts.proofs.Common.{ℕ, Bool, true, false, cond, eqb, ltb, leb, ◌&&◌, List, ◌≡◌, ◌≢◌, ◌+◌, ◌*◌, ◌^◌, ◌<◌, ◌≤◌, refl, sym, ◌∙◌, ap, arith, ⊎_elim, mul-le-mul_right, cases_eq, leb-true, leb-false, nat_tests, Grid, IsGrid, sites, IsSettled, flow, one_at, topplings, lost, weight, grain_weight, sum_below, flow_le, flow_ones, weight_after, sum_below_same, sum_below_le, sum_below-add, sum_below-scale, sum_below-one_at, one_at_same, one_at_other, sum_below_none, all_or_one, at_most_one, underway_start, underway_end, advances_on, Tile, bit, number, Count, counted, bit_le, tiles, tile_of, place_of, on_tiles, IsClear, Counts, tile_at, toppled, IsWave, IsWholeWave, AreAtRest, heights_before, IsOneWave, over_wave, counts_of, AreCounted, heights_on, grown_on, AreOutside, AreQuiet}
use Rattle.sand_model.specs.Grid.{missing}
use Rattle.sand_model.specs.Sand.{grains}
use Rattle.sand_model.specs.Underway.{Advances}
use Rattle.sand_model.proofs.Bounds.{at_most_sum_below, few_weigh, limit_has_room, weight_bound}
use Rattle.sand_fronts.proofs.OnTiles.{place_below, on_sum, on_below, on_each, height_low}
use Rattle.sand_fronts.proofs.Ends.{wave_balance, wave_advances, four_again, one_wave, HasPassed, Leaves}
use Rattle.sand_fronts.proofs.Sums.{sum_on_tiles, sum_below_most}

-- the heights between two waves: if the held site may topple again, it has 4 more than in the planes
abbrev pub heights_now : Grid → ℕ → Bool → (ℕ → Tile) → ℕ → ℕ
heights_now g site more τ j = cond more (heights_before g site τ j) (heights_on g τ j)

-- ---- what the held site has

-- if no other site has toppled, the held one did not get 4 grains back, since the pile is lighter
alone_rests : {g : Grid} {site : ℕ} {ρ τ : ℕ → Tile} → HasPassed g site ρ τ
    → ((j : ℕ) → j < sites g → toppled g τ j ≤ 1 * one_at site j) → flow g (toppled g τ) site ≡ 4 → ⊥
alone_rests {g} {site} {ρ} {τ} past alone back =
    let t = toppled g τ in
    let h = heights_before g site ρ in let k = heights_before g site τ in
    let balance = wave_balance past {k = k} (record {
      others = λ j l ne. omega (arith, one_at_other site j (λ e. ne (sym e)));
      held = omega (arith, one_at_same site);
    }) in
    let light = weight_after g h t k (record { balance = balance }) in
    let heavy = sum_below_le (sites g) (λ i. h i * grain_weight g i) (λ i. k i * grain_weight g i) (λ j l.
    let either = cases_eq j site in
    let more : h j ≤ k j = grind (arith, nat_tests, alone j l, past.whole.started) in
    mul-le-mul_right (grain_weight g j) more) in
    omega (arith, past.whole.started, at_most_sum_below (sites g) t site past.inside)

-- whether the held site has 4 again
held_has : {g : Grid} {site : ℕ} {ρ τ : ℕ → Tile} (more : Bool) → HasPassed g site ρ τ
    → more ≡ (ltb 1 (topplings g (toppled g τ)) && eqb (heights_on g τ site) 0)
    → heights_now g site more τ site ≡ flow g (toppled g τ) site
held_has {g} {site} {ρ} {τ} more past test =
    let t = toppled g τ in
    let four = one_at_same site in
    let empty = past.empty in let started = past.whole.started in let held = past.whole.wave.at_held in
    let one : ℕ → ℕ → ℕ = λ i j. 1 * one_at i j in
    let most = flow_le g t (λ j. 1) (λ j l. bit_le (τ (tile_of g j)).wave (place_of g j)) site past.inside in
    let ones = flow_ones g site in
    let first = sum_below-one_at (sites g) site (λ j. 1) past.inside in
    ⊎_elim
    (λ (all : (i : ℕ) → i < sites g → leb (t i) (one site i) ≡ true).
    let alone : (i : ℕ) → i < sites g → t i ≤ one site i = λ i l. leb-true (t i) (one site i) (all i l) in
    let few = sum_below_le (sites g) t (one site) alone in
    let rests = alone_rests past alone in
    grind (arith, nat_tests))
    (λ (some : (i : ℕ) × (i < sites g) × (leb (t i) (one site i) ≡ false)).
    let i = some.0 in
    let more = leb-false (t i) (one site i) some.2 in
    let ne : i ≢ site = λ e. omega (arith, ap t e, ap (one_at site) e, one_at_same site, started) in
    let both = sum_below_le (sites g) (λ j. one site j + one i j) t (λ j l. grind (arith, nat_tests)) in
    let sum = sum_below-add (sites g) (one site) (one i) in
    let second = sum_below-one_at (sites g) i (λ j. 1) some.1 in
    let again = four_again past i in
    grind (arith, nat_tests))
    (all_or_one (sites g) (λ i. leb (t i) (one site i)))

-- ---- what has been counted

-- after any number of waves of a drop that began with the tiles τ and the counts c
pub record AreWaves (g : Grid) (site : ℕ) (more : Bool) (τ σ : ℕ → Tile) (c d : ℕ → Count) : Type 0 where
  pub quiet : AreQuiet σ
  pub empty : more ≡ true → heights_on g σ site ≡ 0
  pub advances : Advances g (grown_on g c c) (heights_before g site τ) (grown_on g c d) (heights_now g site more σ)
  pub counts : (m p : ℕ) → p < 64 → counted (d m) p ≡ counted (c m) p + on_tiles g (grown_on g c d) m p

pub none_grown : (g : Grid) (c : ℕ → Count) → 0 ≡ topplings g (grown_on g c c)
none_grown g c = sym (sum_below_none (sites g) (grown_on g c c) (λ j l. omega arith))

pub none_counted : (g : Grid) (c : ℕ → Count) (m p : ℕ) → p < 64
    → counted (c m) p ≡ counted (c m) p + on_tiles g (grown_on g c c) m p
none_counted g c m p low = omega (arith, on_below g (grown_on g c c) m p 0 low (λ j l. omega arith))

pub waves_begin : (g : Grid) (site : ℕ) (τ : ℕ → Tile) (c : ℕ → Count) → AreAtRest g site τ
    → AreWaves g site true τ τ c c
waves_begin g site τ c rest = record {
  quiet = rest.quiet;
  empty = λ is. rest.empty;
  advances = record { underway = λ s before. before; weight_pays = omega arith; grains_fall = omega arith };
  counts = none_counted g c;
}

lost_more : (g : Grid) (u v w : ℕ → ℕ) → ((j : ℕ) → j < sites g → w j ≡ u j + v j) → lost g w ≡ lost g u + lost g v
lost_more g u v w e =
    sum_below_same (sites g) (λ j. missing g j * w j) (λ j. missing g j * u j + missing g j * v j)
    (λ j l. omega (arith, ap (λ m. missing g j * m) (e j l)))
    ∙ sum_below-add (sites g) (λ j. missing g j * u j) (λ j. missing g j * v j)

pub wave_lost : {g : Grid} {site : ℕ} {h : ℕ → ℕ} (ν : ℕ → Tile) {τ : ℕ → Tile} → AreOutside g ν → IsWave g site h τ
    → over_wave (tiles g) ν τ ≡ lost g (toppled g τ)
wave_lost {g} {site} {h} ν {τ} outside wave =
    let v : ℕ → ℕ = λ j. missing g j * toppled g τ j in
    sum_below_same (tiles g) (λ k. sum_below 64 (λ p. number (ν k) p * bit (τ k).wave p))
    (λ k. sum_below 64 (λ p. on_tiles g v k p))
    (λ k l. sum_below_same 64 (λ p. number (ν k) p * bit (τ k).wave p) (λ p. on_tiles g v k p)
    (λ p m. rw (outside k p m, wave.inside k p m)
    (on_each g k p (λ (r : (ℕ → ℕ) → ℕ). r (missing g) * r (toppled g τ) ≡ r v) m (λ j l. refl) refl)))
    ∙ sum_on_tiles g v

-- one more wave, from the tiles σ to those of the list us, of `size` topplings, which loses `gone` grains; when it is
-- counted, the counts d become e, and the tiles are those of the list vs
pub record OneMore (g : Grid) (site : ℕ) (τ σ : ℕ → Tile) (us vs : List Tile) (c : ℕ → Count)
    (d e : Counts) (size gone : ℕ) : Type 0 where
  pub inside : site < sites g
  pub before : AreWaves g site true τ σ c (counts_of d)
  pub whole : IsWholeWave g site σ (tile_at us)
  pub counts : AreCounted us vs d e
  pub clear : (m : ℕ) → IsClear (tile_at vs m)
  pub size_is : size ≡ topplings g (toppled g (tile_at us))
  pub gone_is : gone ≡ lost g (toppled g (tile_at us))

-- after it
pub record Waved (g : Grid) (site : ℕ) (more : Bool) (τ σ ρ : ℕ → Tile) (c d e : ℕ → Count) (size gone : ℕ)
    : Type 0 where
  pub waves : AreWaves g site more τ ρ c e
  pub all_topplings : topplings g (grown_on g c e) ≡ topplings g (grown_on g c d) + size
  pub all_lost : lost g (grown_on g c e) ≡ lost g (grown_on g c d) + gone
  pub lighter : weight g (heights_now g site more ρ) < weight g (heights_now g site true σ)
  pub wave : ℕ → ℕ
  pub one : IsOneWave g site (heights_now g site true σ) wave (heights_now g site more ρ)
  pub size_is : size ≡ topplings g wave
  pub some : 1 ≤ size

pub waves_more : {g : Grid} {site : ℕ} {τ σ : ℕ → Tile} {us vs : List Tile} {c : ℕ → Count} {d e : Counts}
    {size gone height : ℕ} → OneMore g site τ σ us vs c d e size gone → height ≡ heights_on g (tile_at vs) site
    → Waved g site (ltb 1 size && eqb height 0) τ σ (tile_at vs) c (counts_of d) (counts_of e) size gone
waves_more {g} {site} {τ} {σ} {us} {vs} {c} {d} {e} {size} {height = height} wave read =
    let more = ltb 1 size && eqb height 0 in
    let ω = tile_at us in let ρ = tile_at vs in
    let counts = wave.counts in let before = wave.before in let whole = wave.whole in
    let t = toppled g ω in
    let h = heights_before g site σ in
    let k = heights_now g site more ρ in
    let u = grown_on g c (counts_of d) in let v = grown_on g c (counts_of e) in
    let same : (j : ℕ) → heights_on g ρ j ≡ heights_on g ω j =
    λ j. rw (counts.low (tile_of g j), counts.high (tile_of g j)) in
    let past : HasPassed g site σ ω = record { inside = wave.inside; empty = before.empty refl; whole = whole } in
    let has = held_has more past (ap (λ n. ltb 1 n && eqb height 0) wave.size_is
    ∙ ap (λ x. ltb 1 (topplings g t) && eqb x 0) (read ∙ same site)) in
    let leaves : Leaves g site h ω k = record {
      others = λ j l ne. let s = same j in grind (arith, nat_tests);
      held = let s = same site in grind (arith, nat_tests);
    } in
    let sums : (j : ℕ) → j < sites g → v j ≡ u j + t j = λ j l.
    let low = place_below g j in
    let counts' = before.counts (tile_of g j) (place_of g j) low in
    omega (arith, counts.each (tile_of g j) (place_of g j) low, wave.clear (tile_of g j) (place_of g j) low) in
    let next = wave_advances past u v leaves sums in
    let all = sum_below_same (sites g) v (λ j. u j + t j) sums ∙ sum_below-add (sites g) u t in
    let part = at_most_sum_below (sites g) t site wave.inside in
    record {
      waves = record {
        quiet = record {
          clear = wave.clear;
          none_due = λ m p low. ap (λ x. bit x p) (counts.due m) ∙ whole.none_due m p low;
        };
        empty = λ is. grind (arith, nat_tests);
        advances = advances_on before.advances next;
        counts = λ m p l.
            let sum = on_sum g u t v m p l sums in
            omega (arith, before.counts m p l, counts.each m p l, wave.clear m p l, whole.wave.inside m p l);
      };
      all_topplings = omega (arith, wave.size_is);
      all_lost = lost_more g u t v sums ∙ ap (λ n. lost g u + n) (sym wave.gone_is);
      lighter = omega (arith, next.weight_pays, whole.started);
      wave = t;
      one = one_wave past leaves;
      size_is = wave.size_is;
      some = omega (arith, wave.size_is, part, whole.started);
    }

missing_le : (g : Grid) (j : ℕ) → missing g j ≤ 4
unfolding missing
missing_le g j = omega arith

lost_few : (g : Grid) (u : ℕ → ℕ) → lost g u ≤ 4 * topplings g u
lost_few g u =
    let few = sum_below_le (sites g) (λ j. missing g j * u j) (λ j. 4 * u j)
    (λ j l. mul-le-mul_right (u j) (missing_le g j)) in
    omega (arith, sum_below-scale (sites g) 4 u)

pub none_lost : (g : Grid) (c : ℕ → Count) → 0 ≡ lost g (grown_on g c c)
none_lost g c = omega (arith, none_grown g c, lost_few g (grown_on g c c))

-- a drop on a stable pile topples fewer than 2 ^ 54 times
pub few_yet : {g : Grid} {site : ℕ} {more : Bool} {τ σ : ℕ → Tile} {c d : ℕ → Count}
    → IsGrid g → AreWaves g site more τ σ c d
    → (topplings g (grown_on g c d) < 2 ^ 54) × (lost g (grown_on g c d) < 2 ^ 56)
few_yet {g} {site} {τ = τ} {c = c} {d = d} sides waves =
    let h = heights_before g site τ in
    let each = sum_below_most (sites g) 7 h
    (λ j l. omega (arith, height_low (τ (tile_of g j)) (place_of g j), at_most_one (eqb site j))) in
    let light = few_weigh g (grains g h) (omega (arith, limit_has_room g sides)) in
    let few : topplings g (grown_on g c d) < 2 ^ 54 = omega
    (arith, light, weight_bound g h, none_grown g c, waves.advances.weight_pays) in
    (few, omega (arith, lost_few g (grown_on g c d)))

pub few_counted : {g : Grid} {site : ℕ} {more : Bool} {τ σ : ℕ → Tile} {c d : ℕ → Count} (m p : ℕ)
    → IsGrid g → AreWaves g site more τ σ c d → p < 64
    → counted (c m) p < 2 ^ 60 → counted (d m) p < 2 ^ 61
few_counted {g} {c = c} {d = d} m p sides waves low few =
    let u = grown_on g c d in
    let all = (few_yet sides waves).0 in
    let below = on_below g u m p (2 ^ 54) low (λ j l. omega (arith, at_most_sum_below (sites g) u j l)) in
    omega (arith, waves.counts m p low)

pub waves_end : {g : Grid} {site : ℕ} {τ σ : ℕ → Tile} {c d : ℕ → Count} → AreWaves g site false τ σ c d
    → IsSettled g (heights_before g site τ) (grown_on g c d) (heights_on g σ)
waves_end {g} {site} {τ} {σ} {c} {d} waves =
    let h = heights_before g site τ in
    underway_end g h (grown_on g c d) (heights_on g σ)
    (waves.advances.underway h (underway_start g h (grown_on g c c) (λ j l. omega arith)))
    (λ j l. height_low (σ (tile_of g j)) (place_of g j))
