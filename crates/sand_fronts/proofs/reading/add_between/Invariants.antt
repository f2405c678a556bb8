use Rattle.std.proofs.Common.{◌≡◌, ◌+◌, ◌-◌, ◌<◌, ◌≤◌, ℕ, length, get_or}
use Rattle.sand_fronts.proofs.reading.add_between.Given as goal

abbrev pub invariant-loop-entry : goal.invariant-loop-entry
invariant-loop-entry l = record {
  len : length l.list ≡ length l.initial.list;
  added : (j : ℕ) → l.first ≤ j → j < l.entry
      → get_or l.list j 0 ≡ get_or l.initial.list j 0 + get_or l.numbers (l.from + (j - l.first)) 0;
  before : (j : ℕ) → j < l.first → get_or l.list j 0 ≡ get_or l.initial.list j 0;
  after : (j : ℕ) → l.entry ≤ j → get_or l.list j 0 ≡ get_or l.initial.list j 0;
}
