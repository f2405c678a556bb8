-- On a settled pile grains can drop at any sites, within the grain limit: each settles and causes an avalanche.
use Rattle.sand_commands.proofs.Common.{ℕ, zero, suc, ◌≡◌, ◌+◌, ◌-◌, ◌<◌, ◌≤◌, refl, sym, ap, ◌∙◌, subst, arith, List, [], ◌∷◌, ◌++◌, All, map, length, sum, get_or, append_assoc, append-nil, ⊎_elim, range_with_len, cases_lt, get_or_past, length-append, All-head, All-tail, Grid, sites, distance, PileView, most_grains_on, Avalanche, area_of, IsAvalanche, DrivenView, IsAfter, Drops, TakesGrain, grid_of_driven, topplings_between, HasAvalanche, SettledView, odometer_of, after_drop, AreRows}
use Rattle.std.proofs.lemmas.List.FromFn.{length-map-range_with_len, get_or-map-range_with_len}
use Rattle.sand_model.specs.Sand.{one_at, topplings, lost, IsSettled}
use Rattle.sand_model.proofs.EachSettles.{settles}
use Rattle.sand_model.proofs.Sandpile.{settled_same}
use Rattle.sand_commands.proofs.Rows.{no_drops, rows_first}

-- a number for each site
by_site : Grid → (ℕ → ℕ) → List ℕ
by_site g f = map f (range_with_len 0 (sites g))

length-by_site : (g : Grid) (f : ℕ → ℕ) → length (by_site g f) ≡ sites g
unfolding by_site
length-by_site g f = length-map-range_with_len f 0 (sites g)

get_or-by_site : (g : Grid) (f : ℕ → ℕ) (j : ℕ) → j < sites g → get_or (by_site g f) j 0 ≡ f j
unfolding by_site
get_or-by_site g f j l = get_or-map-range_with_len f 0 (sites g) j j 0 l (omega arith)

-- the record after a drop by which each site j topples u j times, with the heights t
poured : SettledView → (ℕ → ℕ) → (ℕ → ℕ) → SettledView
poured r u t =
    let counts : List ℕ = by_site r.pile.grid (λ j. odometer_of r j + u j) in
    record {
      pile = record { grid = r.pile.grid; heights = by_site r.pile.grid t };
      odometer = counts;
      topplings = r.topplings + topplings r.pile.grid (λ j. get_or counts j 0 - get_or r.odometer j 0);
      lost = r.lost + lost r.pile.grid (λ j. get_or counts j 0 - get_or r.odometer j 0);
    }

takes_grain : (r : SettledView) (site : ℕ) (u t : ℕ → ℕ) → length r.odometer ≡ sites r.pile.grid
    → IsSettled r.pile.grid (λ j. get_or r.pile.heights j 0 + one_at site j) u t → TakesGrain r site (poured r u t)
unfolding poured
takes_grain r site u t each done =
    let g : Grid = r.pile.grid in
    let counts : List ℕ = by_site g (λ j. get_or r.odometer j 0 + u j) in
    let grown : (j : ℕ) → j < sites g → get_or counts j 0 ≡ get_or r.odometer j 0 + u j =
    get_or-by_site g (λ j. get_or r.odometer j 0 + u j) in
    record {
      grid = refl;
      heights_each = length-by_site g t;
      odometer_each = length-by_site g (λ j. get_or r.odometer j 0 + u j);
      never_falls = λ j.
          ⊎_elim
          (λ (inside : j < sites g). let e = grown j inside in omega arith)
          (λ (outside : sites g ≤ j). let none = get_or_past r.odometer j 0 (omega arith) in omega arith)
          (cases_lt j (sites g));
      settled = settled_same g (λ j. get_or r.pile.heights j 0 + one_at site j)
          (λ j. get_or r.pile.heights j 0 + one_at site j) u
          (λ j. get_or counts j 0 - get_or r.odometer j 0) t (λ j. get_or (by_site g t) j 0)
          (λ i l. refl) (λ i l. let e = grown i l in omega arith) (λ i l. sym (get_or-by_site g t i l)) done;
      more_topplings = refl;
      more_lost = refl;
    }

-- the greatest distance from a site to one of the first n that topple
record IsReach (g : Grid) (site : ℕ) (v : ℕ → ℕ) (n reach : ℕ) : Type 0 where
  within : (j : ℕ) → j < n → 0 < v j → distance g site j ≤ reach
  reached : 0 < reach → (j : ℕ) × (j < n) × (0 < v j) × (distance g site j ≡ reach)

-- the same, with one more site
reach_more : (g : Grid) (site : ℕ) (v : ℕ → ℕ) (n near far : ℕ)
    → ((j : ℕ) → j < n → 0 < v j → distance g site j ≤ near)
    → near ≤ far → (0 < v n → distance g site n ≤ far)
    → (0 < far → (j : ℕ) × (j < suc n) × (0 < v j) × (distance g site j ≡ far)) → IsReach g site v (suc n) far
reach_more g site v n near far within more last reached = record {
  within = λ j l topples.
      ⊎_elim
      (λ (before : j < n). let e = within j before topples in omega arith)
      (λ (past : n ≤ j).
      let same : j ≡ n = omega arith in
      let P : ℕ → Type 0 = λ i. 0 < v i → distance g site i ≤ far in
      subst P (sym same) last topples)
      (cases_lt j n);
  reached = reached;
}

reach_of : (g : Grid) (site : ℕ) (v : ℕ → ℕ) (n : ℕ) → (reach : ℕ) × IsReach g site v n reach
reach_of g site v zero =
    (0, record { within = λ j l topples. absurd (omega arith); reached = λ l. absurd (omega arith) })
reach_of g site v (suc n) =
    let rest = reach_of g site v n in
    let before : 0 < rest.0 → (j : ℕ) × (j < suc n) × (0 < v j) × (distance g site j ≡ rest.0) =
    λ l. (let j = rest.1.reached l in (j.0, omega (arith, j.1), j.2, j.3)) in
    ⊎_elim
    (λ (topples : 0 < v n).
    ⊎_elim
    (λ (farther : rest.0 < distance g site n). (
      distance g site n,
      reach_more g site v n rest.0 (distance g site n) rest.1.within
          (omega arith) (λ _. omega arith) (λ _. (n, omega arith, topples, refl)),
    ))
    (λ (near : distance g site n ≤ rest.0).
    (rest.0, reach_more g site v n rest.0 rest.0 rest.1.within (omega arith) (λ _. near) before))
    (cases_lt rest.0 (distance g site n)))
    (λ (still : v n ≤ 0).
    (rest.0, reach_more g site v n rest.0 rest.0 rest.1.within (omega arith) (λ topples. absurd (omega arith)) before))
    (cases_lt 0 (v n))

-- whatever topples is an avalanche
avalanche_of : (g : Grid) (site : ℕ) (v : ℕ → ℕ) → (a : Avalanche) × IsAvalanche g site v a
avalanche_of g site v =
    let reach = reach_of g site v (sites g) in (
      record { site = site; size = topplings g v; area = area_of g v; reach = reach.0; lost = lost g v },
      record {
        origin = refl;
        size = refl;
        area = refl;
        within = reach.1.within;
        reached = λ far. let (j, inside, topples, away) = reach.1.reached far in
            record { at = j; inside = inside; topples = topples; away = away };
        all_lost = refl;
      },
    )

-- a drop on the site turns v into `after`, with its avalanche
record DropsOn (v : DrivenView) (site : ℕ) : Type 0 where
  after : DrivenView
  avalanche : Avalanche
  has : HasAvalanche v site avalanche after

drop_exists : (v : DrivenView) (site : ℕ)
    → length v.settled.odometer ≡ sites (grid_of_driven v)
    → site < sites (grid_of_driven v) → v.grains < most_grains_on (grid_of_driven v) → DropsOn v site
drop_exists v site each inside room =
    let r : SettledView = v.settled in
    let done = settles r.pile.grid (λ j. get_or r.pile.heights j 0 + one_at site j) in
    let w : DrivenView = record { settled = poured r done.0 done.1; number = v.number + 1; grains = v.grains + 1 } in
    let avalanche = avalanche_of r.pile.grid site (topplings_between r w.settled) in
    record {
      after = w;
      avalanche = avalanche.0;
      has = record {
        drops = record {
          inside = inside;
          room = room;
          settled = takes_grain r site done.0 done.1 each done.2;
          number = refl;
          grains = refl;
        };
        avalanche = avalanche.1;
      };
    }

-- what some drops, and more after them, lead to
pub record Continues (start : PileView) (past : List ℕ) (n : ℕ) (v : DrivenView) (more : List ℕ) : Type 0 where
  pub rows : List (ℕ × Avalanche)
  pub last : DrivenView
  pub dropped : AreRows n v more rows last
  pub end : IsAfter start (past ++ more) last

-- for any stable pile and any list of sites within the grain limit, the drops and avalanches exist
pub drops_exist : (start : PileView) (past more : List ℕ) (n : ℕ) (v : DrivenView)
    → IsAfter start past v → All (λ j. j < sites start.grid) more
    → sum start.heights + (length past + length more) ≤ most_grains_on start.grid → Continues start past n v more
drops_exist start past [] n v after inside few =
    let P : List ℕ → Type 0 = λ history. IsAfter start history v in
    record {
      rows = [];
      last = v;
      dropped = no_drops n v;
      end = subst P (sym (append-nil past)) after;
    }
drops_exist start past (site ∷ more) n v after inside few =
    let grid = ap sites after.settled.grid in
    let first = drop_exists v site (after.settled.odometer_each ∙ sym grid)
    (let l = All-head (λ j. j < sites start.grid) site more inside in omega (arith, l, grid))
    (let grains = after.grains in omega (arith, grains, few, ap most_grains_on after.settled.grid)) in
    let next = after_drop start past site v first.after first.has.drops after in
    let longer = length-append past (site ∷ []) in
    let rest = drops_exist start (past ++ site ∷ []) more (n + 1) first.after next
    (All-tail (λ j. j < sites start.grid) site more inside) (omega (arith, longer, few)) in
    let P : List ℕ → Type 0 = λ history. IsAfter start history rest.last in
    record {
      rows = (n, first.avalanche) ∷ rest.rows;
      last = rest.last;
      dropped = rows_first n v first.after rest.last site more first.avalanche rest.rows
          first.has.drops first.has.avalanche rest.dropped;
      end = subst P (append_assoc past (site ∷ []) more) rest.end;
    }
