-- A pile driven by fronts: its heights are on tiles, and its odometer is that of the settled start plus the topplings
-- since.
use Rattle.std.specs.Prelude.{ℕ, ◌≡◌, ◌+◌, ◌≤◌, sum, slice_index}
use Rattle.sand_fronts.specs.TiledPiles.{TiledView, by_site}
use Rattle.sand_settle.specs.Settling.{SettledView, IsSomeSettledRecord}
use Rattle.sand_settle.specs.Drops.{IsPaid}

-- the record of the start, with the heights on the tiles, and with the topplings on them added
abbrev pub driven_record : SettledView → TiledView → ℕ → ℕ → SettledView
driven_record r t topplings lost = record {
  pile = record { grid = r.pile.grid; heights = t.heights };
  odometer = by_site r.pile.grid (λ j. slice_index r.odometer j + slice_index t.times j);
  topplings = topplings;
  lost = lost;
}

-- the record is right, and each drop added a grain
pub record IsDriven (r : SettledView) (t : TiledView) (number topplings lost grains : ℕ) : Type 0 where
  pub one_grid : t.grid ≡ r.pile.grid
  pub paid : IsPaid (driven_record r t topplings lost)
  pub settled : IsSomeSettledRecord (driven_record r t topplings lost)
  pub all_grains : grains ≡ sum t.heights + lost
  pub bound : number ≤ grains
