use Rattle.std.proofs.Common.{ℕ, ◌≡◌, ◌<◌, pos, length, slice_index}
use Rattle.sand_group.specs.Classes.{integer_at}
use Rattle.sand_c.proofs.classes.write_heights.Given as goal

abbrev pub invariant-loop-site : goal.invariant-loop-site
invariant-loop-site l = record {
  len : length l.heights ≡ length l.initial.heights;
  each : (k : ℕ) → k < l.site → integer_at l.heights k ≡ pos (slice_index l.pile k);
}
