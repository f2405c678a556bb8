use Rattle.sand_group.proofs.Common.{ℕ, ◌≡◌, ◌-◌, ◌^◌, ◌<◌, ◌≤◌}
use Rattle.sand_group.proofs.multiplying.greatest_power.Given as goal

abbrev pub invariant-powers : goal.invariant-powers
invariant-powers l = record {
  power : (k : ℕ) × (l.power ≡ l.base ^ k);
  some : 0 < l.power;
  within : l.power ≤ l.n;
}

abbrev pub decreases-powers : goal.decreases-powers
decreases-powers l = l.n - l.power
