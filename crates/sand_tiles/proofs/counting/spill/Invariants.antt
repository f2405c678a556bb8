use Rattle.std.proofs.Common.{ℕ, ◌≡◌, ◌+◌, ◌<◌, ◌≤◌, get_or}
use Rattle.sand_tiles.specs.Counts.{times}
use Rattle.sand_tiles.proofs.counting.spill.Given as goal

abbrev pub invariant-loop-place : goal.invariant-loop-place
invariant-loop-place l = record {
  moved : (p : ℕ) → p < l.place → get_or l.spilled p 0 ≡ get_or l.fn.spilled p 0 + times l.fn.recent.planes p;
  waiting : (p : ℕ) → l.place ≤ p → get_or l.spilled p 0 ≡ get_or l.fn.spilled p 0;
}
