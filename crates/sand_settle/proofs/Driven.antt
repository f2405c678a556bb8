-- A pile driven by fronts, before and after a drop.
use Rattle.sand_settle.proofs.Common.{ℕ, List, length, take, ◌≡◌, ◌+◌, ◌^◌, ◌<◌, ◌≤◌, refl, sym, ◌∙◌, ap, subst, arith, sum, slice_index, ext_get_or, sites, IsSettled, one_at, most_grains_on, settled_same, at_most_sum_below, Avalanche, IsAvalanche, HasWaves, SettledView, IsSomeSettledRecord, odometer_of, IsPaid, TakesGrain, topplings_between, driven_record, IsDriven}
use Rattle.sand_model.specs.Edges.{to_edge}
use Rattle.sand_model.proofs.Edges.{topples_few}
use Rattle.sand_fronts.specs.TiledPiles.{TiledView, IsTiledView, HasDroppedOnTiles, by_site, toppled_between}
use Rattle.sand_fronts.proofs.OnPiles.{avalanche_same}
use Rattle.sand_fronts.proofs.WaveSizes.{waves_add_up, written_whole}
use Rattle.sand_fronts.proofs.NewPiles.{by_site_at, by_site_le, by_site_long}
use Rattle.sand_settle.proofs.OneRecord.{same_parts}
use Rattle.sand_settle.proofs.Drops.{paid_after, paid_few, grains_after, some_record_after}

-- ---- before a drop

-- the tiles have the heights of the record r, none of their sites has toppled, and the sums are those of r
pub record IsAtStart (r : SettledView) (t : TiledView) (all gone : ℕ) : Type 0 where
  pub paid : IsPaid r
  pub settled : IsSomeSettledRecord r
  pub one_grid : t.grid ≡ r.pile.grid
  pub by_site : IsTiledView t
  pub heights : (j : ℕ) → j < sites r.pile.grid → slice_index t.heights j ≡ slice_index r.pile.heights j
  pub none : (j : ℕ) → slice_index t.times j ≡ 0
  pub all_topplings : all ≡ r.topplings
  pub all_lost : gone ≡ r.lost

-- so its record is r
pub start_record : {r : SettledView} {t : TiledView} {all gone : ℕ} → IsAtStart r t all gone
    → r ≡ driven_record r t all gone
start_record {r} {t} {all} {gone} at =
    let g = r.pile.grid in
    let tiled = at.by_site.heights_each ∙ ap sites at.one_grid in
    let times : ℕ → ℕ = λ j. slice_index r.odometer j + slice_index t.times j in
    let heights = ext_get_or 0 r.pile.heights t.heights (omega (arith, at.paid.heights_each))
    (λ j l. sym (at.heights j (omega (arith, at.paid.heights_each)))) in
    let counts = ext_get_or 0 r.odometer (by_site g times) (omega (arith, at.paid.odometer_each, by_site_long g times))
    (λ j l. omega (arith, at.none j, by_site_at g times j (omega (arith, at.paid.odometer_each)))) in
    same_parts refl heights counts (sym at.all_topplings) (sym at.all_lost)

pub driven_start : {r : SettledView} {t : TiledView} {all gone grains : ℕ}
    → IsAtStart r t all gone → grains ≡ sum r.pile.heights + gone
    → IsDriven r t 0 all gone grains
driven_start at whole =
    let same = start_record at in
    record {
      one_grid = at.one_grid;
      paid = subst IsPaid same at.paid;
      settled = subst IsSomeSettledRecord same at.settled;
      all_grains = omega (arith, whole, ap (λ (q : SettledView). sum q.pile.heights) same);
      bound = omega arith;
    }

-- ---- a drop

pub few_counts : {r : SettledView} {t : TiledView} {number all gone grains : ℕ}
    → IsDriven r t number all gone grains → (j : ℕ) → j < sites t.grid
    → slice_index r.odometer j + slice_index t.times j < 2 ^ 60
few_counts {r} {t} {all = all} {gone = gone} driven j l =
    let one = ap sites driven.one_grid in
    let at = by_site_at r.pile.grid (λ i. slice_index r.odometer i + slice_index t.times i) j (omega arith) in
    let part =
    at_most_sum_below (sites r.pile.grid) (odometer_of (driven_record r t all gone)) j (omega arith) in
    omega (arith, driven.paid.all_topplings, paid_few driven.paid)

-- a grain dropped at the site has set off the avalanche f on the tiles t, which are u after it
pub record DropsOn (r : SettledView) (t u : TiledView) (site : ℕ) (f : Avalanche) (number all gone grains : ℕ)
    : Type 0 where
  pub avalanche : IsAvalanche r.pile.grid site
      (topplings_between (driven_record r t all gone) (driven_record r u (all + f.size) (gone + f.lost))) f
  pub taken : TakesGrain (driven_record r t all gone) site (driven_record r u (all + f.size) (gone + f.lost))
  pub driven : IsDriven r u (number + 1) (all + f.size) (gone + f.lost) (grains + 1)

pub drops_on : {r : SettledView} {t u : TiledView} {site : ℕ} {f : Avalanche} {number all gone grains : ℕ}
    → IsDriven r t number all gone grains → site < sites r.pile.grid → grains < most_grains_on r.pile.grid
    → HasDroppedOnTiles t site f u
    → DropsOn r t u site f number all gone grains
drops_on {r} {t} {u} {site} {f} {all = all} {gone = gone} driven inside room has =
    let g = r.pile.grid in
    let s : ℕ → ℕ = λ j. slice_index t.heights j + one_at site j in
    let before : ℕ → ℕ = λ j. slice_index r.odometer j + slice_index t.times j in
    let after : ℕ → ℕ = λ j. slice_index r.odometer j + slice_index u.times j in
    let p = driven_record r t all gone in
    let q = driven_record r u (all + f.size) (gone + f.lost) in
    let between : (j : ℕ) → j < sites g → toppled_between t u j ≡ topplings_between p q j =
    λ j l. omega (arith, by_site_at g before j l, by_site_at g after j l) in
    let fell : IsAvalanche g site (topplings_between p q) f =
    avalanche_same g site (toppled_between t u) (topplings_between p q) f between
    (subst (λ h. IsAvalanche h site (toppled_between t u) f) driven.one_grid has.avalanche) in
    let taken : TakesGrain p site q = record {
      grid = refl;
      heights_each = has.by_site.heights_each ∙ ap sites has.grid ∙ ap sites driven.one_grid;
      odometer_each = by_site_long g after;
      never_falls = λ j. by_site_le g before after j (λ l. omega (arith, has.never_falls j));
      settled = settled_same g s s (toppled_between t u) (topplings_between p q) (slice_index u.heights)
          (slice_index u.heights) (λ j l. refl) between (λ j l. refl)
          (subst (λ h. IsSettled h s (toppled_between t u) (slice_index u.heights)) driven.one_grid has.settled);
      more_topplings = ap (λ m. all + m) fell.size;
      more_lost = ap (λ m. gone + m) fell.all_lost;
    } in
    record {
      avalanche = fell;
      taken = taken;
      driven = record {
        one_grid = has.grid ∙ driven.one_grid;
        paid = paid_after driven.paid inside (omega (arith, room, driven.all_grains)) taken;
        settled = some_record_after driven.settled taken;
        all_grains = omega (arith, driven.all_grains, grains_after driven.paid inside taken);
        bound = omega (arith, driven.bound);
      };
    }

-- the waves of the drop, if its avalanche is f
pub record WavesOn (r : SettledView) (t u : TiledView) (site n : ℕ) (f : Avalanche) (all gone : ℕ)
    (before after : List ℕ) : Type 0 where
  pub waves : HasWaves r.pile.grid site (λ j. slice_index t.heights j + one_at site j) (slice_index u.heights)
      n before after
  pub one_each : n
      ≡ topplings_between (driven_record r t all gone) (driven_record r u (all + f.size) (gone + f.lost)) site
  pub few : n ≤ to_edge r.pile.grid site
  pub sum_of_sizes : n ≤ length before → sum (take n after) ≡ f.size

pub waves_on : {r : SettledView} {t u : TiledView} {site n : ℕ} {f : Avalanche} {number all gone grains : ℕ}
    {before after : List ℕ}
    → IsDriven r t number all gone grains → site < sites r.pile.grid → DropsOn r t u site f number all gone grains
    → HasWaves t.grid site (λ j. slice_index t.heights j + one_at site j) (slice_index u.heights) n before after
    → WavesOn r t u site n f all gone before after
waves_on {r} {t} {u} {site} {n} {f} {all = all} {gone = gone} {before = before} {after = after} driven inside dropped
    has =
    let g = r.pile.grid in
    let s : ℕ → ℕ = λ j. slice_index t.heights j + one_at site j in
    let v = topplings_between (driven_record r t all gone) (driven_record r u (all + f.size) (gone + f.lost)) in
    let waves = subst (λ h. HasWaves h site s (slice_index u.heights) n before after) driven.one_grid has in
    let up = waves_add_up g site s v (slice_index u.heights) waves.sizes inside waves.lead dropped.taken.settled in
    let few = topples_few g (slice_index t.heights) v site inside driven.paid.stable dropped.taken.settled.odometer
    site inside in
    let each = waves.each in
    record {
      waves = waves;
      one_each = omega (arith, up.0);
      few = omega (arith, up.0, few);
      sum_of_sizes = λ room. ap sum (ap (λ k. take k after) (sym each) ∙ written_whole waves.written (omega arith))
          ∙ up.1 ∙ sym dropped.avalanche.size;
    }
