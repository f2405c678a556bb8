-- The sites of a row near a site, a list that is written row by row, and what an avalanche leaves as it is.
use Rattle.sand_settle.proofs.Common.{ℕ, Bool, true, false, List, Option, Some, None, cond, ltb, min, ◌≡◌, ◌+◌, ◌-◌, ◌*◌, ◌/◌, ◌%◌, ◌<◌, ◌≤◌, ◌⊎◌, inr, refl, sym, ◌∙◌, ap, arith, ⊎_elim, IfSome, slice_index, if◌then◌else◌, cases_lt, ltb-true, ltb-false, Grid, sites, joins, column, row, columns_apart, places, flow, value_at, height_of, one_at_other, Avalanche, IsAvalanche, SettledView, odometer_of, TakesGrain, topplings_between, AgreeFar}
use Rattle.std.specs.Int.{abs_diff}
use Rattle.std.proofs.lemmas.Nat.{div-mul-add, mod-mul-add, div-add-mod', div_below, mod_below, le-div}
use Rattle.sand_model.specs.Grid.{distance, north, west, east, south}
use Rattle.sand_model.proofs.Neighbours.{flow_four, place_inside, some_width}

-- ---- the sites of a row

-- how far away a site of a row is
pub apart : (g : Grid) (site i y d : ℕ) → row g i ≡ y → distance g site i ≤ d
    → columns_apart g site i + abs_diff y (row g site) ≤ d
unfolding distance
apart g site i y d at near = omega arith

pub placed : (g : Grid) (i y from to first end : ℕ) → row g i ≡ y → first ≡ y * g.width + from → end ≡ y * g.width + to
    → from ≤ column g i → column g i < to → (first ≤ i) × (i < end)
placed g i y from to first end at begin stop low high =
    let whole = div-add-mod' i g.width in let rows = ap (λ k. k * g.width) at in (omega arith, omega arith)

in_row : (w y i : ℕ) → y * w ≤ i → i < (y + 1) * w → i / w ≡ y
in_row w y i low high =
    let e : i ≡ y * w + (i - y * w) = omega arith in
    let few : i - y * w < w = omega arith in
    rw e (div-mul-add y w (i - y * w) few)

-- the sites before the first row, and those from the last one on, are farther away than the reach
pub far_before : (g : Grid) (site i reach first : ℕ) → 0 < g.width → first ≡ row g site - reach → i < first * g.width
    → reach < distance g site i
unfolding distance
far_before g site i reach first some is before =
    let above = div_below i g.width first some (omega arith) in omega arith

pub far_after : (g : Grid) (site i reach last y : ℕ) → i < sites g → last ≡ min g.height (row g site + reach + 1)
    → last ≤ y → y * g.width ≤ i → reach < distance g site i
unfolding distance
far_after g site i reach last y inside is past after =
    let some = some_width g.width g.height i inside in
    let below = le-div y i g.width some after in
    let low = div_below i g.width g.height some (omega arith) in
    omega arith

-- ---- a list whose rows before row y are written, and that of row y, between two sites

pub row_near : (g : Grid) (site reach y first end : ℕ) (v : ℕ → ℕ) (list new : List ℕ)
    → ((i : ℕ) → row g i ≡ y → distance g site i ≤ reach → (first ≤ i) × (i < end))
    → ((i : ℕ) → first ≤ i → i < end → slice_index new i ≡ v i)
    → ((i : ℕ) → i < first → slice_index new i ≡ slice_index list i)
    → ((i : ℕ) → i < sites g → i < y * g.width → distance g site i ≤ reach → slice_index list i ≡ v i)
    → y * g.width ≤ first
    → (i : ℕ) → i < sites g → i < (y + 1) * g.width → distance g site i ≤ reach → slice_index new i ≡ v i
row_near g site reach y first end v list new near there before above begin i inside less close = ⊎_elim
    (λ (old : i < y * g.width). before i (omega arith) ∙ above i inside old close)
    (λ (low : y * g.width ≤ i). let within = near i (in_row g.width y i low less) close in there i within.0 within.1)
    (cases_lt i (y * g.width))

pub row_other : (first end i old n : ℕ) (list new : List ℕ)
    → (first ≤ i → i < end → slice_index new i ≡ n)
    → (i < first → slice_index new i ≡ slice_index list i)
    → (end ≤ i → slice_index new i ≡ slice_index list i)
    → (slice_index list i ≡ old) ⊎ (slice_index list i ≡ n)
    → (slice_index new i ≡ old) ⊎ (slice_index new i ≡ n)
row_other first end i old n list new there before after was = ⊎_elim
    (λ (left : i < first). rw (before left) was)
    (λ (right : first ≤ i). ⊎_elim (λ (within : i < end). inr (there right within))
    (λ (past : end ≤ i). rw (after past) was) (cases_lt i end))
    (cases_lt i first)

-- ---- neighbours

-- how many columns are between two, the shorter way around if the ends of a row are joined
abbrev across : Bool → ℕ → ℕ → ℕ → ℕ
across joined w c x = if joined then min (abs_diff c x) (w - abs_diff c x) else abs_diff c x

distance_at : (g : Grid) (site j x y : ℕ) → x < g.width → j ≡ y * g.width + x
    → distance g site j ≡ across (joins g.edge) g.width (column g site) x + abs_diff (row g site) y
unfolding distance
distance_at g site j x y l e = rw (e, div-mul-add y g.width x l, mod-mul-add y g.width x l) refl

next : (joined : Bool) (w c x : ℕ) → c < w → x + 1 < w
    → (across joined w c x ≤ across joined w c (x + 1) + 1) × (across joined w c (x + 1) ≤ across joined w c x + 1)
next true w c x inside within = (omega arith, omega arith)
next false w c x inside within = (omega arith, omega arith)

-- over the seam
over : (w c : ℕ) → c < w → (across true w c 0 ≤ across true w c (w - 1) + 1)
    × (across true w c (w - 1) ≤ across true w c 0 + 1)
over w c inside = (omega arith, omega arith)

none : (joined : Bool) (w c : ℕ) → across joined w c c ≡ 0
none true w c = omega arith
none false w c = omega arith

own : (g : Grid) (site : ℕ) → distance g site site ≡ 0
unfolding distance
own g site = let z = none (joins g.edge) g.width (column g site) in omega arith

-- a place in the grid is at most one farther from a site than its neighbour j
abbrev IsBeside : Grid → ℕ → ℕ → Option ℕ → Type 0
IsBeside g site j p = IfSome p (λ i. distance g site j ≤ distance g site i + 1)

if_some : (P : ℕ → Type 0) (b : Bool) (a : ℕ) (p : Option ℕ) → (b ≡ true → P a) → (b ≡ false → IfSome p P)
    → IfSome (cond b (Some a) p) P
if_some P true a p here there = here refl
if_some P false a p here there = there refl

north_beside : (g : Grid) (site j : ℕ) → j < sites g → IsBeside g site j (north g j)
unfolding north
north_beside g site j l =
    let w = g.width in let small = mod_below j w (some_width w g.height j l) in let parts = div-add-mod' j w in
    if_some (λ i. distance g site j ≤ distance g site i + 1) (ltb 0 (j / w)) (j - w) None
    (λ up.
    let one : (j / w - 1 + 1) * w ≡ j / w * w = ap (λ y. y * w) (omega (arith, ltb-true 0 (j / w) up)) in
    omega (
      arith,
      distance_at g site j (j % w) (j / w) small (sym parts),
      distance_at g site (j - w) (j % w) (j / w - 1) small (omega arith),
    ))
    (λ first. tt)

south_beside : (g : Grid) (site j : ℕ) → j < sites g → IsBeside g site j (south g j)
unfolding south
south_beside g site j l =
    let w = g.width in let small = mod_below j w (some_width w g.height j l) in let parts = div-add-mod' j w in
    if_some (λ i. distance g site j ≤ distance g site i + 1) (ltb (j / w + 1) g.height) (j + w) None
    (λ down. omega (
      arith,
      distance_at g site j (j % w) (j / w) small (sym parts),
      distance_at g site (j + w) (j % w) (j / w + 1) small (omega arith),
    ))
    (λ last. tt)

west_beside : (g : Grid) (site j : ℕ) → site < sites g → j < sites g → IsBeside g site j (west g j)
unfolding west
west_beside g site j inside l =
    let w = g.width in let some = some_width w g.height j l in
    let small = mod_below j w some in let parts = div-add-mod' j w in let c = mod_below site w some in
    let here = distance_at g site j (j % w) (j / w) small (sym parts) in
    let P : ℕ → Type 0 = λ i. distance g site j ≤ distance g site i + 1 in
    if_some P (ltb 0 (j % w)) (j - 1) (cond (joins g.edge) (Some (j + (w - 1))) None)
    (λ left.
    let some' = ltb-true 0 (j % w) left in
    let one : j % w - 1 + 1 ≡ j % w = omega arith in
    let step = rw one at (next (joins g.edge) w (column g site) (j % w - 1) c (omega arith)) in
    omega (arith, here, distance_at g site (j - 1) (j % w - 1) (j / w) (omega arith) (omega arith), step.1))
    (λ first. if_some P (joins g.edge) (j + (w - 1)) None
    (λ joined.
    let zero : j % w ≡ 0 = omega (arith, ltb-false 0 (j % w) first) in
    let step = over w (column g site) c in
    omega (
      arith,
      rw (zero, joined) at here,
      rw joined at (distance_at g site (j + (w - 1)) (w - 1) (j / w) (omega arith) (omega arith)),
      step.0,
    ))
    (λ open'. tt))

east_beside : (g : Grid) (site j : ℕ) → site < sites g → j < sites g → IsBeside g site j (east g j)
unfolding east
east_beside g site j inside l =
    let w = g.width in let some = some_width w g.height j l in
    let small = mod_below j w some in let parts = div-add-mod' j w in let c = mod_below site w some in
    let here = distance_at g site j (j % w) (j / w) small (sym parts) in
    let P : ℕ → Type 0 = λ i. distance g site j ≤ distance g site i + 1 in
    if_some P (ltb (j % w + 1) w) (j + 1) (cond (joins g.edge) (Some (j - (w - 1))) None)
    (λ right.
    let within = ltb-true (j % w + 1) w right in
    let step = next (joins g.edge) w (column g site) (j % w) c within in
    omega (arith, here, distance_at g site (j + 1) (j % w + 1) (j / w) (omega arith) (omega arith), step.0))
    (λ last. if_some P (joins g.edge) (j - (w - 1)) None
    (λ joined.
    let end : j % w ≡ w - 1 = omega (arith, ltb-false (j % w + 1) w last) in
    let step = over w (column g site) c in
    omega (
      arith,
      rw (end, joined) at here,
      rw joined at (distance_at g site (j - (w - 1)) 0 (j / w) some (omega arith)),
      step.1,
    ))
    (λ open'. tt))

-- ---- what an avalanche leaves as it is

-- if a neighbour of j is a site, it is farther away than the sites that topple
quiet : (g : Grid) (u : ℕ → ℕ) (site reach j : ℕ) (p : Option ℕ)
    → ((i : ℕ) → i < sites g → 0 < u i → distance g site i ≤ reach) → reach + 1 < distance g site j
    → IfSome p (λ i. i < sites g) → IsBeside g site j p → value_at u p ≡ 0
quiet g u site reach j None within far inside beside = refl
quiet g u site reach j (Some i) within far inside beside = ⊎_elim
    (λ (some : 0 < u i). absurd (omega (arith, within i inside some)))
    (λ (no : u i ≤ 0). omega arith)
    (cases_lt 0 (u i))

nothing_flows : (g : Grid) (u : ℕ → ℕ) (site reach j : ℕ) → site < sites g → j < sites g
    → ((i : ℕ) → i < sites g → 0 < u i → distance g site i ≤ reach) → reach + 1 < distance g site j → flow g u j ≡ 0
nothing_flows g u site reach j inside l within far =
    let is = λ (k : ℕ). place_inside g j (sites g) k (places g j) refl l refl in
    omega (
      arith,
      flow_four g u j,
      quiet g u site reach j (north g j) within far (is 0) (north_beside g site j l),
      quiet g u site reach j (west g j) within far (is 1) (west_beside g site j inside l),
      quiet g u site reach j (east g j) within far (is 2) (east_beside g site j inside l),
      quiet g u site reach j (south g j) within far (is 3) (south_beside g site j l),
    )

module _ {r q : SettledView} {site : ℕ} {a : Avalanche} (inside : site < sites r.pile.grid)
    (taken : TakesGrain r site q) (fell : IsAvalanche r.pile.grid site (topplings_between r q) a) where
  pub counts_far : AgreeFar r.pile.grid site a.reach (odometer_of r) (odometer_of q)
  counts_far j l far = ⊎_elim
      (λ (some : 0 < topplings_between r q j). absurd (omega (arith, fell.within j l some)))
      (λ (no : topplings_between r q j ≤ 0). omega (arith, taken.never_falls j))
      (cases_lt 0 (topplings_between r q j))

  pub heights_far : AgreeFar r.pile.grid site (a.reach + 1) (height_of r.pile) (height_of q.pile)
  heights_far j l far =
      let g = r.pile.grid in
      let other = one_at_other site j (λ same. omega (arith, own g site, ap (distance g site) same)) in
      omega (
        arith,
        taken.settled.toppled.balance j l,
        nothing_flows g (topplings_between r q) site a.reach j inside l fell.within far,
        counts_far j l (omega arith),
        other,
      )
