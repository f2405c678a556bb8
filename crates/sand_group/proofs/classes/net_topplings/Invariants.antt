use Rattle.sand_group.proofs.Common.{ℕ, ◌≡◌, ◌+◌, ◌*◌, ◌<◌, pos, ◌-ℤ◌, length, slice_index, integer_at}
use Rattle.sand_group.proofs.classes.net_topplings.Given as goal

abbrev pub invariant-loop-site : goal.invariant-loop-site
invariant-loop-site l = record {
  len : length l.firing.items ≡ l.site;
  each : (k : ℕ) → k < l.site
      → integer_at l.firing.items k ≡ pos (slice_index l.up k + slice_index l.last k)
      -ℤ pos (slice_index l.down k + 2 * slice_index l.full k);
}
