use Rattle.std.proofs.Common.{ℕ, ◌≡◌, ◌<◌, ◌≤◌, true, get_or}
use Rattle.sand_settle.proofs.in_place.are_stable.Given as goal

abbrev pub invariant-loop-height : goal.invariant-loop-height
invariant-loop-height l = l.are_low ≡ true → (j : ℕ) → j < l.height-index → get_or l.heights j 0 ≤ 3
