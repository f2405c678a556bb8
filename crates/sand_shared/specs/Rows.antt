-- The rows of a pass: from the first up to the end, which is one past the last. Both are 0 if there are none.
use Rattle.std.specs.Prelude.{ℕ, Bool, false, ◌≡◌, ◌+◌, ◌-◌, ◌<◌, ◌≤◌, ◌==◌, ◌||◌, nat_lt, if◌then◌else◌}
use Rattle.sand_model.specs.Grid.{Grid, row}
use Rattle.sand_shared.specs.declared.rows.Rows.{Rows}

abbrev pub no_rows : Rows
no_rows = record { first = 0; end = 0 }

-- the rows from a up to b
abbrev pub rows_between : ℕ → ℕ → Rows
rows_between a b = if nat_lt a b then record { first = a; end = b } else no_rows

abbrev pub count_of : Rows → ℕ
count_of r = r.end - r.first

-- all but the last k rows, and those
abbrev pub upper_rows : Rows → ℕ → Rows
upper_rows r k = rows_between r.first (r.end - k)

abbrev pub lower_rows : Rows → ℕ → Rows
lower_rows r k = rows_between (r.end - k) r.end

-- q is empty, or begins where r ends
abbrev pub rows_follow : Rows → Rows → Bool
rows_follow r q = (q.first == q.end) || (q.first == r.end)

abbrev pub rows_together : Rows → Rows → Rows
rows_together r q = if rows_follow r q
    then record { first = r.first; end = r.end + count_of q }
    else record { first = q.first; end = q.end + count_of r }

-- neither follows the other
abbrev pub AreApart : Rows → Rows → Type 0
AreApart r q = (rows_follow r q || rows_follow q r) ≡ false

-- rows of a grid; if there are none, both numbers are 0
pub record AreRowsOf (g : Grid) (r : Rows) : Type 0 where
  pub ordered : r.first ≤ r.end
  pub inside : r.end ≤ g.height
  pub none : r.first ≡ r.end → r.first ≡ 0

-- the site is in one of the rows
pub record HoldsSite (g : Grid) (r : Rows) (site : ℕ) : Type 0 where
  pub from : r.first ≤ row g site
  pub below : row g site < r.end
