use Rattle.sand_group.proofs.Common.{ℕ, ◌≡◌, ◌/◌, ◌^◌, ◌<◌, length, sites, height_of, IsMultiple}
use Rattle.sand_group.proofs.multiplying.multiple.Given as goal

abbrev pub invariant-digits : goal.invariant-digits
invariant-digits l = record {
  power : (k : ℕ) × (l.unit ≡ l.base ^ k);
  some : 0 < l.unit;
  grid : l.sum.grid ≡ l.fn.c.grid;
  len : length l.sum.heights ≡ sites l.fn.c.grid;
  multiple : IsMultiple l.fn.c.grid (l.fn.n / l.unit) (height_of l.fn.c) (height_of l.sum);
}

abbrev pub decreases-digits : goal.decreases-digits
decreases-digits l = l.unit
