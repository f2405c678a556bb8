-- The sites of rows: the site i is in row i / width, and a row begins at a multiple of the width.
use Rattle.sand_shared.proofs.Common.{◌≡◌, ℕ, ◌+◌, ◌*◌, ◌/◌, ◌<◌, ◌≤◌, sym, ap, ◌∙◌, arith, mul_comm, mul-le-mul_right, Grid, IsGrid, sites, Rows, count_of, HoldsSite, AreRowsOf}
use Rattle.std.proofs.lemmas.Nat.{div-add-mod', mod_below}

pub times_plus : (a b w : ℕ) → (a + b) * w ≡ a * w + b * w
times_plus a b w = grind arith

-- where rows begin and end, and how many sites they have
pub rows_end : (r : Rows) (w : ℕ) → r.first ≤ r.end → r.first * w + count_of r * w ≡ r.end * w
rows_end r w le = sym (times_plus r.first (count_of r) w) ∙ ap (λ n. n * w) (omega arith)

pub record IsInside (g : Grid) (r : Rows) (site : ℕ) : Type 0 where
  pub from : r.first * g.width ≤ site
  pub below : site < r.first * g.width + count_of r * g.width

pub site_inside : (g : Grid) (r : Rows) (site : ℕ) → IsGrid g → HoldsSite g r site → IsInside g r site
site_inside g r site sides held =
    let parts = div-add-mod' site g.width in
    let small = mod_below site g.width sides.some_width in
    let from = held.from in
    let a : r.first * g.width ≤ site / g.width * g.width = mul-le-mul_right g.width from in
    let b : (site / g.width + 1) * g.width ≤ r.end * g.width = mul-le-mul_right g.width (omega arith) in
    let c = times_plus (site / g.width) 1 g.width in
    let d = rows_end r g.width (omega arith) in
    record { from = omega arith; below = omega arith }

-- rows of a grid have sites of the grid
pub rows_inside : (g : Grid) (r : Rows) → AreRowsOf g r → r.first * g.width + count_of r * g.width ≤ sites g
rows_inside g r rows =
    let a = rows_end r g.width rows.ordered in
    let b : r.end * g.width ≤ g.height * g.width = mul-le-mul_right g.width rows.inside in
    let c = mul_comm g.height g.width in omega arith
