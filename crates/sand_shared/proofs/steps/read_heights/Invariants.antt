use Rattle.std.proofs.Common.{◌≡◌, ℕ, ◌+◌, ◌≤◌, ◌<◌, length, get_or, vec_capacity}
use Rattle.std.specs.Mem.Slots.{slots_items}
use Rattle.sand_shared.proofs.steps.read_heights.Given as goal

abbrev pub invariant-loop-site : goal.invariant-loop-site
invariant-loop-site l = record {
  len : length l.heights.items ≡ l.site;
  room : l.sites ≤ vec_capacity l.heights;
  read : (i : ℕ) → i < l.site → get_or l.heights.items i 0 ≡ get_or (slots_items l.closed.words) (i + 2) 0;
}
