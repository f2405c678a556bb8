-- The first and the last row, by the number of a site, and the column of the next site.
use Rattle.sand_model.proofs.Common.{ℕ, suc, ◌≡◌, ◌+◌, ◌%◌, ◌<◌, ◌≤◌, refl, sym, arith, add-one, None, Bool, true, false, leb, ltb, ◌&&◌, nat_tests, suc-mod, mod_self, mod-eq_of_lt, Grid, sites, row, column, is_inner}
use Rattle.sand_model.specs.Grid.{north, south}
use Rattle.sand_model.proofs.Neighbours.{some_width, row_above, row_below}

pub nothing_north : (g : Grid) (i : ℕ) → i < sites g → i < g.width → None ≡ north g i
unfolding north
nothing_north g i inside first =
    grind (arith, nat_tests, (row_above g.width i (some_width g.width g.height i inside)).0)

pub nothing_south : (g : Grid) (i : ℕ) → i < sites g → sites g ≤ i + g.width → None ≡ south g i
unfolding south
nothing_south g i inside last =
    grind (arith, nat_tests, (row_below g.width g.height i (some_width g.width g.height i inside)).0)

rows_told : (g : Grid) (i : ℕ) → i < sites g
    → (leb g.width i ≡ ltb 0 (row g i)) × (ltb (i + g.width) (sites g) ≡ ltb (row g i + 1) g.height)
rows_told g i inside =
    let pos = some_width g.width g.height i inside in
    let above = row_above g.width i pos in
    let below = row_below g.width g.height i pos in
    (grind (arith, nat_tests, above.0, above.1), grind (arith, nat_tests, below.0, below.1))

and_joined : (a b c d : Bool) → (((a && b) && c) && d) ≡ (a && b && c && d)
and_joined true true c d = refl
and_joined true false c d = refl
and_joined false b c d = refl

pub inner_told : (g : Grid) (i w end x : ℕ) → i < sites g → w ≡ g.width → end ≡ sites g → x ≡ column g i
    → (((leb w i && ltb (i + w) end) && ltb 0 x) && ltb (x + 1) w) ≡ is_inner g i
inner_told g i w end x inside width all at_column =
    let told = rows_told g i inside in
    rw (width, all, at_column, told.0, told.1)
    (and_joined (ltb 0 (row g i)) (ltb (row g i + 1) g.height) (ltb 0 (column g i)) (ltb (column g i + 1) g.width))

-- ---- the column of the next site, after the end of a row and elsewhere

pub next_row : (w i : ℕ) → i % w + 1 ≡ w → 0 ≡ (i + 1) % w
next_row w i last =
    let all : suc (i % w) ≡ w = omega arith in
    let turned : suc (i % w) % w ≡ 0 = rw all (mod_self w) in
    sym (rw (add-one, suc-mod i w) turned)

pub same_row : (w i : ℕ) → i % w + 1 < w → i % w + 1 ≡ (i + 1) % w
same_row w i inside =
    let below : suc (i % w) < w = omega arith in
    let kept = mod-eq_of_lt {n = suc (i % w)} {m = w} below in
    sym (rw (add-one, suc-mod i w) (omega arith))
