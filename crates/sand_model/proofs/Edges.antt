-- How far the neighbours of a site are from the nearest open edge, and how often a drop topples a site at most.
use Rattle.sand_model.proofs.Common.{ℕ, Bool, true, false, eqb, Option, Some, None, min, zero, suc, ◌≡◌, ◌+◌, ◌-◌, ◌*◌, ◌/◌, ◌%◌, ◌<◌, ◌≤◌, refl, sym, ◌∙◌, ap, ap₂, arith, ⊎_elim, if◌then◌else◌, cases_eq, nat_tests, div_below, div-add-mod', mod_below, div-mul-add, mod-mul-add, Grid, IsGrid, sites, joins, column, row, middle, flow, value_at, one_at, IsStable, IsLeast, Stabilises}
use Rattle.sand_model.specs.Grid.{north, west, east, south}
use Rattle.sand_model.specs.Edges.{least_to_edge, to_edge, most_to_edge}
use Rattle.sand_model.proofs.Neighbours.{flow_four, some_width}
use Rattle.sand_model.proofs.SumsBelow.{one_at_other}
use Rattle.sand_model.proofs.Lists.{at_most_one}

-- the distance of a site in column x and row y
at_place : (g : Grid) (i x y : ℕ) → x < g.width → i ≡ y * g.width + x
    → to_edge g i ≡ least_to_edge (joins g.edge) (x + 1) (g.width - x) (y + 1) (g.height - y)
unfolding to_edge
at_place g i x y l e = rw (e, div-mul-add y g.width x l, mod-mul-add y g.width x l) refl

one_row_less : (y w : ℕ) → 0 < y → (y - 1) * w + w ≡ y * w
one_row_less zero w l = absurd (omega arith)
one_row_less (suc q) w l = let one : suc q - 1 ≡ q = omega arith in rw one (omega arith)

-- the distances of the four neighbours, and 0 for one outside the grid
north_of : (g : Grid) (i : ℕ) → i < sites g → value_at (to_edge g) (north g i)
    ≤ least_to_edge (joins g.edge) (column g i + 1) (g.width - column g i) (row g i) (g.height - row g i + 1)
unfolding north
north_of g i l =
    let w = g.width in
    let parts = div-add-mod' i w in
    let small = mod_below i w (some_width w g.height i l) in
    let there = λ (up : 0 < i / w).
    at_place g (i - w) (i % w) (i / w - 1) small (omega (arith, one_row_less (i / w) w up)) in
    grind (arith, nat_tests)

south_of : (g : Grid) (i : ℕ) → i < sites g → value_at (to_edge g) (south g i)
    ≤ least_to_edge (joins g.edge) (column g i + 1) (g.width - column g i) (row g i + 2) (g.height - row g i - 1)
unfolding south
south_of g i l =
    let w = g.width in
    let parts = div-add-mod' i w in
    let small = mod_below i w (some_width w g.height i l) in
    let there = at_place g (i + w) (i % w) (i / w + 1) small (omega arith) in
    let less : g.height - (i / w + 1) ≡ g.height - i / w - 1 = omega arith in
    grind (arith, nat_tests)

west_of : (g : Grid) (i : ℕ) → i < sites g → value_at (to_edge g) (west g i)
    ≤ least_to_edge (joins g.edge) (column g i) (g.width - column g i + 1) (row g i + 1) (g.height - row g i)
unfolding west
west_of g i l =
    let w = g.width in
    let pos = some_width w g.height i l in
    let parts = div-add-mod' i w in
    let small = mod_below i w pos in
    let near = λ (some : 0 < i % w). at_place g (i - 1) (i % w - 1) (i / w) (omega arith) (omega arith) in
    let far = λ (first : i % w ≤ 0). at_place g (i + (w - 1)) (w - 1) (i / w) (omega arith) (omega arith) in
    grind (arith, nat_tests)

east_of : (g : Grid) (i : ℕ) → i < sites g → value_at (to_edge g) (east g i)
    ≤ least_to_edge (joins g.edge) (column g i + 2) (g.width - column g i - 1) (row g i + 1) (g.height - row g i)
unfolding east
east_of g i l =
    let w = g.width in
    let pos = some_width w g.height i l in
    let parts = div-add-mod' i w in
    let small = mod_below i w pos in
    let near = λ (some : i % w + 1 < w). at_place g (i + 1) (i % w + 1) (i / w) some (omega arith) in
    let far = λ (last : w ≤ i % w + 1). at_place g (i - (w - 1)) 0 (i / w) pos (omega arith) in
    grind (arith, nat_tests)

-- the same for the least of the distance and a bound
value_at_min : (d : ℕ → ℕ) (most : ℕ) (p : Option ℕ) → value_at (λ j. min (d j) most) p ≤ min (value_at d p) most
value_at_min d most None = omega arith
value_at_min d most (Some i) = omega arith

-- two neighbours on a line, if the distances to its ends are a and b, and k bounds both
pair : (a b k p q : ℕ) → 0 < a → 0 < b → p ≤ k → q ≤ k → p + 1 ≤ a → p ≤ b + 1 → q ≤ a + 1 → q ≤ b - 1
    → p + q ≤ 2 * min (min a b) k
pair a b k p q pa pb pk qk pa' pb' qa qb = omega arith

-- what the least of three is at most
three : (m n t : ℕ) → (min (min m n) t ≤ min m t) × (min (min m n) t ≤ min n t) × (min (min m n) t ≤ n)
three m n t = (omega arith, omega arith, omega arith)

two : (m n : ℕ) → (min m n ≤ m) × (min m n ≤ n)
two m n = (omega arith, omega arith)

first_of : (m n t : ℕ) → (min (min m n) t ≤ min n t) × (min (min m n) t ≤ m)
first_of m n t = (omega arith, omega arith)

le_trans : {a b c : ℕ} → a ≤ b → b ≤ c → a ≤ c
le_trans f s = omega arith

up : {a y : ℕ} → a ≤ y → a + 1 ≤ y + 1
up le = omega arith

straight : (v n s : ℕ) → n + s ≤ 2 * v → n + v + v + s ≤ 4 * v
straight v n s le = omega arith

-- two neighbours in a line sum to at most twice the site's number, so all four to at most four times it
both : (x y t n s w o : ℕ) → n + s ≤ 2 * min y (min x t) → w + o ≤ 2 * min x (min y t)
    → n + w + o + s ≤ 4 * min (min x y) t
both x y t n s w o down level = omega arith

-- the least of straight lines is concave
concave : (j : Bool) (x e y h most : ℕ) → 0 < e → 0 < h
    → min (least_to_edge j (x + 1) e y (h + 1)) most + min (least_to_edge j x (e + 1) (y + 1) h) most
    + min (least_to_edge j (x + 2) (e - 1) (y + 1) h) most + min (least_to_edge j (x + 1) e (y + 2) (h - 1)) most
    ≤ 4 * min (least_to_edge j (x + 1) e (y + 1) h) most
concave true x e y h most pe ph =
    let n = two (min y (h + 1)) most in let n' = two y (h + 1) in
    let s = two (min (y + 2) (h - 1)) most in let s' = two (y + 2) (h - 1) in
    let down = pair (y + 1) h most _ _ (omega arith) ph n.1 s.1 (up (le_trans n.0 n'.0)) (le_trans n.0 n'.1)
    (omega (arith, s.0, s'.0)) (le_trans s.0 s'.1) in
    straight (min (min (y + 1) h) most) _ _ down
concave false x e y h most pe ph =
    let across = min (min (x + 1) e) most in
    let n = three (min (x + 1) e) (min y (h + 1)) most in let n' = two y (h + 1) in
    let s = three (min (x + 1) e) (min (y + 2) (h - 1)) most in let s' = two (y + 2) (h - 1) in
    let down = pair (y + 1) h across _ _ (omega arith) ph n.0 s.0 (up (le_trans n.2 n'.0)) (le_trans n.2 n'.1)
    (omega (arith, s.2, s'.0)) (le_trans s.2 s'.1) in
    let along = min (min (y + 1) h) most in
    let w = first_of (min x (e + 1)) (min (y + 1) h) most in let w' = two x (e + 1) in
    let o = first_of (min (x + 2) (e - 1)) (min (y + 1) h) most in let o' = two (x + 2) (e - 1) in
    let level = pair (x + 1) e along _ _ (omega arith) pe w.0 o.0 (up (le_trans w.1 w'.0)) (le_trans w.1 w'.1)
    (omega (arith, o.1, o'.0)) (le_trans o.1 o'.1) in
    both (min (x + 1) e) (min (y + 1) h) most _ _ _ _ down level

-- the neighbour towards the nearest edge has less
top_two : (y h v n s : ℕ) → v ≡ min y h → n ≤ v → s ≤ v → n + 1 ≤ y → s + 1 ≤ h → n + v + v + s + 1 ≤ 4 * v
top_two y h v n s is nv sv ny sh = omega arith

-- one of the four edges is the nearest, and the neighbour towards it is one nearer
top_four : (x e y h v n w o s : ℕ) → v ≡ min (min x e) (min y h) → n ≤ v → w ≤ v → o ≤ v → s ≤ v
    → n + 1 ≤ y → w + 1 ≤ x → o + 1 ≤ e → s + 1 ≤ h → n + w + o + s + 1 ≤ 4 * v
top_four x e y h v n w o s is nv wv ov sv ny wx oe sh = omega arith

fewer : {a y : ℕ} → 0 < y → a ≤ y - 1 → a + 1 ≤ y
fewer py le = omega arith

-- at a site that is as far from the edge as `most`, the neighbours' numbers sum to less than four times its own
at_top : (j : Bool) (x e y h most : ℕ) → 0 < e → 0 < h → most ≡ least_to_edge j (x + 1) e (y + 1) h
    → min (least_to_edge j (x + 1) e y (h + 1)) most + min (least_to_edge j x (e + 1) (y + 1) h) most
    + min (least_to_edge j (x + 2) (e - 1) (y + 1) h) most + min (least_to_edge j (x + 1) e (y + 2) (h - 1)) most + 1
    ≤ 4 * most
at_top true x e y h most pe ph is =
    let n = two (min y (h + 1)) most in let s = two (min (y + 2) (h - 1)) most in
    let v = two (min (y + 1) h) most in
    let top = top_two (y + 1) h most _ _ is n.1 s.1 (up (le_trans n.0 (two y (h + 1)).0))
    (fewer ph (le_trans s.0 (two (y + 2) (h - 1)).1)) in
    omega (arith, v.1)
at_top false x e y h most pe ph is =
    let n = three (min (x + 1) e) (min y (h + 1)) most in let s = three (min (x + 1) e) (min (y + 2) (h - 1)) most in
    let w = first_of (min x (e + 1)) (min (y + 1) h) most in
    let o = first_of (min (x + 2) (e - 1)) (min (y + 1) h) most in
    top_four (x + 1) e (y + 1) h most _ _ _ _ is (two (least_to_edge false (x + 1) e y (h + 1)) most).1
    (two (least_to_edge false x (e + 1) (y + 1) h) most).1 (two (least_to_edge false (x + 2) (e - 1) (y + 1) h) most).1
    (two (least_to_edge false (x + 1) e (y + 2) (h - 1)) most).1
    (up (le_trans n.2 (two y (h + 1)).0)) (up (le_trans w.1 (two x (e + 1)).0))
    (fewer pe (le_trans o.1 (two (x + 2) (e - 1)).1)) (fewer ph (le_trans s.2 (two (y + 2) (h - 1)).1))

-- the least of the distance from the edge and the dropped site's
abbrev most_at : Grid → ℕ → ℕ → ℕ
most_at g a j = min (to_edge g j) (to_edge g a)

within : (a b c t : ℕ) → a ≤ min b t → b ≤ c → a ≤ min c t
within a b c t ab bc = omega arith

-- four numbers are at most four others
four_at_most : {f n w o s n' w' o' s' all : ℕ} → f ≡ n + w + o + s → n ≤ n' → w ≤ w' → o ≤ o' → s ≤ s'
    → n' + w' + o' + s' ≤ all → f ≤ all
four_at_most is nn ww oo ss le = omega arith

one_last : (n w o s : ℕ) → n + w + o + s + 1 ≡ n + w + o + (s + 1)
one_last n w o s = omega arith

last_one : (n w o s t : ℕ) → n + w + o + s + 1 ≤ t → n + w + o + (s + 1) ≤ t
last_one n w o s t le = omega arith

same_min : {x y : ℕ} → x ≡ y → min x y ≡ y
same_min e = omega arith

-- by the topplings the dropped site loses at least the dropped grain, and no other site gains
dropped_low : (s o f t m : ℕ) → s ≤ 3 → o ≤ 1 → f + 1 ≤ 4 * t → m ≡ t → s + o + f ≤ 4 * m + 3
dropped_low s o f t m low one less is = omega arith

other_low : (s o f m : ℕ) → s ≤ 3 → o ≡ 0 → f ≤ 4 * m → s + o + f ≤ 4 * m + 3
other_low s o f m low none less = omega arith

module _ (g : Grid) (i : ℕ) (l : i < sites g) where
  x_is : i % g.width < g.width
  x_is = mod_below i g.width (some_width g.width g.height i l)

  y_is : i / g.width < g.height
  y_is = div_below i g.width g.height (some_width g.width g.height i l) (omega (arith, div-add-mod' i g.width))

  here_is : to_edge g i ≡ least_to_edge (joins g.edge) (column g i + 1) (g.width - column g i) (row g i + 1)
      (g.height - row g i)
  here_is = at_place g i (column g i) (row g i) x_is (sym (div-add-mod' i g.width))

module _ (g : Grid) (a i : ℕ) (l : i < sites g) where
  there : (place : Option ℕ) (d : ℕ) → value_at (to_edge g) place ≤ d
      → value_at (most_at g a) place ≤ min d (to_edge g a)
  there place d le = within _ _ _ _ (value_at_min (to_edge g) (to_edge g a) place) le

  -- the neighbours' numbers sum to at most four times the site's own
  flow_at_most : flow g (most_at g a) i ≤ 4 * most_at g a i
  flow_at_most = rw (here_is g i l) (four_at_most (flow_four g (most_at g a) i)
      (there (north g i) _ (north_of g i l)) (there (west g i) _ (west_of g i l)) (there (east g i) _ (east_of g i l))
      (there (south g i) _ (south_of g i l))
      (concave (joins g.edge) (column g i) (g.width - column g i) (row g i) (g.height - row g i) (to_edge g a)
      (omega (arith, x_is g i l)) (omega (arith, y_is g i l))))

  -- and to less at the dropped site
  flow_below : to_edge g a ≡ to_edge g i → flow g (most_at g a) i + 1 ≤ 4 * to_edge g a
  flow_below is = four_at_most (ap (λ n. n + 1) (flow_four g (most_at g a) i) ∙ one_last _ _ _ _)
      (there (north g i) _ (north_of g i l)) (there (west g i) _ (west_of g i l)) (there (east g i) _ (east_of g i l))
      (up (there (south g i) _ (south_of g i l)))
      (last_one _ _ _ _ _ (at_top (joins g.edge) (column g i) (g.width - column g i) (row g i) (g.height - row g i)
      (to_edge g a)
      (omega (arith, x_is g i l)) (omega (arith, y_is g i l)) (is ∙ here_is g i l)))

-- toppled so often, the pile with the dropped grain is stable
most_stabilises : (g : Grid) (s : ℕ → ℕ) (a : ℕ) → a < sites g → IsStable g s
    → Stabilises g (λ j. s j + one_at a j) (most_at g a)
most_stabilises g s a inside stable = record {
  at_most_three = λ i l. ⊎_elim
      (λ (is : i ≡ a). dropped_low _ _ _ _ _ (stable.low i l) (at_most_one (eqb a i))
      (flow_below g a i l (ap (to_edge g) (sym is)))
      (same_min (ap (to_edge g) is)))
      (λ (ne : i ≡ a → ⊥). other_low _ _ _ _ (stable.low i l) (one_at_other a i (λ e. ne (sym e)))
      (flow_at_most g a i l))
      (cases_eq i a);
}

pub topples_few : (g : Grid) (s u : ℕ → ℕ) (a : ℕ) → a < sites g → IsStable g s → IsLeast g (λ j. s j + one_at a j) u
    → (i : ℕ) → i < sites g → u i ≤ min (to_edge g i) (to_edge g a)
topples_few g s u a inside stable least = least.least (most_at g a) (most_stabilises g s a inside stable)

-- half of a side, rounded up, bounds the distances to both of its ends, and is reached in its middle
halves : (x w : ℕ) → x < w → min (x + 1) (w - x) ≤ (w + 1) / 2
halves x w l = omega arith

in_middle : (w : ℕ) → 1 ≤ w → min (w / 2 + 1) (w - w / 2) ≡ (w + 1) / 2
in_middle w l = omega arith

half_of_least : (w h : ℕ) → min ((w + 1) / 2) ((h + 1) / 2) ≡ (min w h + 1) / 2
half_of_least w h = omega arith

least_le : {a b c d : ℕ} → a ≤ c → b ≤ d → min a b ≤ min c d
least_le ac bd = omega arith

near : (e : Bool) (x w y h : ℕ) → x < w → y < h → least_to_edge e (x + 1) (w - x) (y + 1) (h - y)
    ≤ ((if e then h else min w h) + 1) / 2
near true x w y h lx ly = halves y h ly
near false x w y h lx ly = omega (arith, least_le (halves x w lx) (halves y h ly), half_of_least w h)

farthest : (e : Bool) (w h : ℕ) → 1 ≤ w → 1 ≤ h
    → least_to_edge e (w / 2 + 1) (w - w / 2) (h / 2 + 1) (h - h / 2) ≡ ((if e then h else min w h) + 1) / 2
farthest true w h pw ph = in_middle h ph
farthest false w h pw ph = ap₂ min (in_middle w pw) (in_middle h ph) ∙ half_of_least w h

few : (e : Bool) (w h : ℕ) → 2 * (((if e then h else min w h) + 1) / 2) ≤ h + 1
few true w h = omega arith
few false w h = omega arith

pub none_farther : (g : Grid) (i : ℕ) → i < sites g → to_edge g i ≤ most_to_edge g
none_farther g i l =
    rw (here_is g i l) (near (joins g.edge) (column g i) g.width (row g i) g.height (x_is g i l) (y_is g i l))

pub middle_farthest : (g : Grid) → IsGrid g → to_edge g (middle g) ≡ most_to_edge g
middle_farthest g sides =
    at_place g (middle g) (g.width / 2) (g.height / 2) (omega (arith, sides.some_width)) refl
    ∙ farthest (joins g.edge) g.width g.height sides.some_width sides.some_height

pub most_is_small : (g : Grid) → 2 * most_to_edge g ≤ g.height + 1
most_is_small g = few (joins g.edge) g.width g.height
