use Rattle.std.proofs.Common.{◌≡◌, ℕ, ◌+◌, ◌<◌, ◌≤◌, length, get_or}
use Rattle.sand_shared.proofs.settling.add.Given as goal

abbrev pub invariant-places : goal.invariant-places
invariant-places l = record {
  len : length l.numbers.items ≡ length l.initial.numbers.items;
  added : (k : ℕ) → k < l.i → get_or l.numbers.items k 0 ≡ get_or l.initial.numbers.items k 0 + get_or l.more k 0;
  still : (k : ℕ) → l.i ≤ k → get_or l.numbers.items k 0 ≡ get_or l.initial.numbers.items k 0;
}
