-- The four places around a site: their number, that they are sites, and that neighbours are mutual.
use Rattle.sand_model.proofs.Common.{ℕ, zero, suc, ◌≡◌, ◌+◌, ◌-◌, ◌*◌, ◌/◌, ◌%◌, ◌<◌, ◌≤◌, Bool, true, false, cond, ltb, refl, ap, arith, List, [], ◌∷◌, length, Option, Some, None, All, sum_by, count_by, is_none, IfSome, get_or, ltb-true, ltb-false, nat_tests, sum_by-cons, le-div, div_below, mod_below, mod-mul-add, mul-add-lt, div-add-mod', All-cons, All-nil, Grid, joins, sites, places, occurrences, one_at, value_at}
use Rattle.std.specs.List.{filter_map}
use Rattle.sand_model.specs.Grid.{north, west, east, south, neighbours, missing}
use Rattle.sand_model.specs.Sand.{flow}

sum_by-some : (u : ℕ → ℕ) (p : Option ℕ) (ps : List (Option ℕ))
    → sum_by u (filter_map (λ q. q) (p ∷ ps)) ≡ value_at u p + sum_by u (filter_map (λ q. q) ps)
sum_by-some u None ps = omega arith
sum_by-some u (Some i) ps = sum_by-cons u i (filter_map (λ q. q) ps)

pub flow_four : (g : Grid) (u : ℕ → ℕ) (i : ℕ)
    → flow g u i ≡ value_at u (north g i) + value_at u (west g i) + value_at u (east g i) + value_at u (south g i)
unfolding flow neighbours
flow_four g u i =
    let a = sum_by-some u (north g i) (west g i ∷ east g i ∷ south g i ∷ []) in
    let b = sum_by-some u (west g i) (east g i ∷ south g i ∷ []) in
    let c = sum_by-some u (east g i) (south g i ∷ []) in
    let d = sum_by-some u (south g i) [] in
    omega arith

-- how often j is a neighbour of i, place by place
pub occurrences_places : (g : Grid) (i j : ℕ) (ps : List (Option ℕ)) → ps ≡ places g i
    → occurrences (neighbours g i) j
    ≡ value_at (λ k. one_at k j) (get_or ps 0 None) + value_at (λ k. one_at k j) (get_or ps 1 None)
    + value_at (λ k. one_at k j) (get_or ps 2 None) + value_at (λ k. one_at k j) (get_or ps 3 None)
unfolding flow
occurrences_places g i j ps e = rw e (flow_four g (λ k. one_at k j) i)

somes_and_nones : (ps : List (Option ℕ)) → length (filter_map (λ q. q) ps) + count_by is_none ps ≡ length ps
somes_and_nones [] = refl
somes_and_nones (None ∷ ps) =
    let below = somes_and_nones ps in
    rw (sum_by-cons (λ p. cond (is_none p) 1 0) None ps) (omega arith)
somes_and_nones (Some i ∷ ps) =
    let below = somes_and_nones ps in
    rw (sum_by-cons (λ p. cond (is_none p) 1 0) (Some i) ps) (omega arith)

pub neighbours_at_most_four : (g : Grid) (i : ℕ) → length (neighbours g i) ≤ 4
unfolding neighbours
neighbours_at_most_four g i = let all = somes_and_nones (places g i) in omega arith

pub missing_is : (g : Grid) (i : ℕ) → missing g i ≡ count_by is_none (places g i)
unfolding missing neighbours
missing_is g i = let all = somes_and_nones (places g i) in omega arith

pub some_width : (w h i : ℕ) → i < w * h → 0 < w
some_width zero h i l = absurd (omega arith)
some_width (suc w) h i l = omega arith

pub row_above : (w i : ℕ) → 0 < w → (0 < i / w → w ≤ i) × (w ≤ i → 0 < i / w)
row_above w i pos = (λ up. grind (arith, div_below i w 1 pos), λ le. le-div 1 i w pos (omega arith))

pub row_below : (w h j : ℕ) → 0 < w → (j / w + 1 < h → j + w < w * h) × (j + w < w * h → j / w + 1 < h)
row_below w zero j pos = ((λ l. absurd (omega arith)), (λ l. absurd (omega arith)))
row_below w (suc m) j pos = (
  λ l. grind (arith, le-div m j w pos),
  λ l. let near : j / w < m = div_below j w m pos (omega arith) in omega arith,
)

next_column : (w i : ℕ) → 0 < w → (i % w + 1 < w → (i + 1) % w ≡ i % w + 1) × (w ≤ i % w + 1 → (i + 1) % w ≡ 0)
next_column w i pos =
    let parts = div-add-mod' i w in
    let small = mod_below i w pos in (
      (λ l. let e : i + 1 ≡ i / w * w + (i % w + 1) = omega arith in rw e (mod-mul-add (i / w) w (i % w + 1) l)),
      (λ l. let e : i + 1 ≡ (i / w + 1) * w + 0 = omega arith in rw e (mod-mul-add (i / w + 1) w 0 pos)),
    )

-- j is north of i if and only if i is south of j
north_south : (g : Grid) (i j : ℕ) → i < sites g → j < sites g
    → value_at (λ k. one_at k j) (north g i) ≡ value_at (λ k. one_at k i) (south g j)
unfolding north south
north_south g i j li lj =
    let pos : 0 < g.width = some_width g.width g.height i li in
    let above = row_above g.width i pos in
    let below = row_below g.width g.height j pos in
    grind (arith, nat_tests, above.0, above.1, below.0, below.1)

-- w - 1 after the first of a row is its last, and back; the last of a row is not just before one of the same row
last_in_row : (w i j : ℕ) → 0 < w → i % w ≡ 0 → i + (w - 1) ≡ j → j % w + 1 < w → ⊥
last_in_row w i j pos first e inside =
    let parts = div-add-mod' i w in
    let place : j ≡ i / w * w + (w - 1) = omega arith in
    let column : j % w ≡ w - 1 = rw place (mod-mul-add (i / w) w (w - 1) (omega arith)) in
    omega arith

first_in_row : (w i j : ℕ) → 0 < w → w ≤ j % w + 1 → j - (w - 1) ≡ i → 0 < i % w → ⊥
first_in_row w i j pos last e some =
    let parts = div-add-mod' j w in
    let small = mod_below j w pos in
    let place : i ≡ j / w * w + 0 = omega arith in
    let column : i % w ≡ 0 = rw place (mod-mul-add (j / w) w 0 pos) in
    omega arith

before_last : (w i j : ℕ) → 0 < w → 0 < i % w → j + 1 ≡ i → w ≤ j % w + 1 → ⊥
before_last w i j pos some e last =
    let c = (next_column w j pos).1 last in
    let column : (j + 1) % w ≡ i % w = ap (λ k. k % w) e in
    omega arith

-- i is just west of j, or at the other end of its row, if and only if j is just east of i
west_east : (g : Grid) (i j : ℕ) → i < sites g → j < sites g
    → value_at (λ k. one_at k j) (west g i) ≡ value_at (λ k. one_at k i) (east g j)
unfolding west east
west_east g i j li lj =
    let w = g.width in
    let pos : 0 < w = some_width w g.height i li in
    let column : j + 1 ≡ i → (j + 1) % w ≡ i % w = ap (λ k. k % w) in
    let next = next_column w j pos in
    let small-i = mod_below i w pos in
    let small-j = mod_below j w pos in
    let last = last_in_row w i j pos in
    let first = first_in_row w i j pos in
    let before = before_last w i j pos in
    let near-i = div-add-mod' i w in
    let near-j = div-add-mod' j w in
    grind (arith, nat_tests, next.0, next.1)

pub neighbours_mutual : (g : Grid) (i j : ℕ) → i < sites g → j < sites g
    → occurrences (neighbours g i) j ≡ occurrences (neighbours g j) i
neighbours_mutual g i j li lj = omega (
  arith,
  occurrences_places g i j (places g i) refl,
  occurrences_places g j i (places g j) refl,
  north_south g i j li lj,
  north_south g j i lj li,
  west_east g i j li lj,
  west_east g j i lj li,
)

pub some_from : (b : Bool) (m k : ℕ) → cond b (Some m) None ≡ Some k → (b ≡ true) × (m ≡ k)
some_from true m k e = (refl, cc)
some_from false m k e = absurd cc

in_row : (w h i c : ℕ) → i < w * h → c < w → i / w * w + c < w * h
in_row w h i c l inside =
    let pos = some_width w h i l in
    mul-add-lt (i / w) w c h (div_below i w h pos (omega arith)) inside

-- each place around a site, if it is in the grid, is a site
if_near : (n : ℕ) (near wraps : Bool) (a b : ℕ) → (near ≡ true → a < n) → (near ≡ false → wraps ≡ true → b < n)
    → IfSome (cond near (Some a) (cond wraps (Some b) None)) (λ j. j < n)
if_near n true wraps a b here there = here refl
if_near n false true a b here there = there refl refl
if_near n false false a b here there = tt

if_in : (n : ℕ) (b : Bool) (a : ℕ) → (b ≡ true → a < n) → IfSome (cond b (Some a) None) (λ j. j < n)
if_in n true a here = here refl
if_in n false a here = tt

north_below : (g : Grid) (i : ℕ) → i < sites g → IfSome (north g i) (λ j. j < sites g)
unfolding north
north_below g i l = if_in (sites g) _ (i - g.width) (λ up. omega arith)

west_below : (g : Grid) (i : ℕ) → i < sites g → IfSome (west g i) (λ j. j < sites g)
unfolding west
west_below g i l =
    let pos : 0 < g.width = some_width g.width g.height i l in
    let parts = div-add-mod' i g.width in
    let last = in_row g.width g.height i (g.width - 1) l (omega arith) in
    if_near (sites g) (ltb 0 (i % g.width)) (joins g.edge) (i - 1) (i + (g.width - 1)) (λ near. omega arith)
    (λ far wraps. omega (arith, ltb-false 0 (i % g.width) far))

east_below : (g : Grid) (i : ℕ) → i < sites g → IfSome (east g i) (λ j. j < sites g)
unfolding east
east_below g i l =
    let parts = div-add-mod' i g.width in
    if_near (sites g) (ltb (i % g.width + 1) g.width) (joins g.edge) (i + 1) (i - (g.width - 1))
    (λ near. let next = in_row g.width g.height i (i % g.width + 1) l (ltb-true _ _ near) in omega arith)
    (λ far wraps. omega arith)

south_below : (g : Grid) (i : ℕ) → i < sites g → IfSome (south g i) (λ j. j < sites g)
unfolding south
south_below g i l = if_in (sites g) _ (i + g.width)
    (λ down. (row_below g.width g.height i (some_width g.width g.height i l)).0 (ltb-true _ _ down))

somes_below : (n : ℕ) (p : Option ℕ) (ps : List (Option ℕ)) → IfSome p (λ k. k < n)
    → All (λ k. k < n) (filter_map (λ q. q) ps) → All (λ k. k < n) (filter_map (λ q. q) (p ∷ ps))
somes_below n None ps here rest = rest
somes_below n (Some k) ps here rest = All-cons (λ j. j < n) k (filter_map (λ q. q) ps) here rest

pub neighbours_below : (g : Grid) (i : ℕ) → i < sites g → All (λ j. j < sites g) (neighbours g i)
unfolding neighbours
neighbours_below g i l =
    somes_below (sites g) (north g i) (west g i ∷ east g i ∷ south g i ∷ []) (north_below g i l)
    (somes_below (sites g) (west g i) (east g i ∷ south g i ∷ []) (west_below g i l)
    (somes_below (sites g) (east g i) (south g i ∷ []) (east_below g i l)
    (somes_below (sites g) (south g i) [] (south_below g i l) (All-nil (λ j. j < sites g)))))

place_below : (g : Grid) (i k : ℕ) → i < sites g → IfSome (get_or (places g i) k None) (λ j. j < sites g)
place_below g i zero l = north_below g i l
place_below g i (suc zero) l = west_below g i l
place_below g i (suc (suc zero)) l = east_below g i l
place_below g i (suc (suc (suc zero))) l = south_below g i l
place_below g i (suc (suc (suc (suc k)))) l = tt

pub place_inside : (g : Grid) (i n k : ℕ) (ps : List (Option ℕ)) → ps ≡ places g i → i < sites g → n ≡ sites g
    → IfSome (get_or ps k None) (λ j. j < n)
place_inside g i n k ps e l s = rw (s, e) (place_below g i k l)
