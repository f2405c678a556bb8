-- How the recurrent pile of p - q + lift is reached, for heights p and q, and a lift that is the same at each site.
-- Source: Holroyd et al. 2008 (6 - settled(6) is equivalent to all 0, and at least 3 at each site).
use Rattle.std.specs.Prelude.{ℕ, ◌≡◌, ◌+◌, ◌*◌, ◌^◌, ◌<◌}
use Rattle.sand_model.specs.Grid.{Grid, sites}
use Rattle.sand_model.specs.Piles.{height_of}
use Rattle.sand_settle.specs.Settling.{SettledView, IsSettledRecord, odometer_of}
use Rattle.sand_group.specs.declared.reaching.Reached.{Reached}

-- the settled record of the heights s, and its topplings fit in an i64
pub record IsShortRecord (g : Grid) (s : ℕ → ℕ) (r : SettledView) : Type 0 where
  pub record_of : IsSettledRecord g s r
  pub few : r.topplings < 2 ^ 54

-- p, q and 6 have settled, and so has settled(p) - settled(q) + 2 * (6 - settled(6)) + lift, which is at least 3 at
-- each site
pub record IsReached (g : Grid) (p q : ℕ → ℕ) (lift : ℕ) (r : Reached) : Type 0 where
  pub plus : IsShortRecord g p r.plus
  pub minus : IsShortRecord g q r.minus
  pub full : IsShortRecord g (λ i. 6) r.full
  pub start : ℕ → ℕ
  pub start_is : (i : ℕ) → i < sites g
      → start i + height_of r.minus.pile i + 2 * height_of r.full.pile i ≡ height_of r.plus.pile i + 12 + lift
  pub last : IsShortRecord g start r.last

-- how often each site has toppled, and how often topplings of it are taken back
abbrev pub times_up : Reached → ℕ → ℕ
times_up r i = odometer_of r.plus i + odometer_of r.last i

abbrev pub times_down : Reached → ℕ → ℕ
times_down r i = odometer_of r.minus i + 2 * odometer_of r.full i
