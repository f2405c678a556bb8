use Rattle.sand_shared.proofs.Common.{◌≡◌, ℕ, ◌<◌, take, length, get_or, occurrences}
use Rattle.sand_shared.proofs.dropping_lists.count_sites.Given as goal

abbrev pub invariant-drops : goal.invariant-drops
invariant-drops l = record {
  len : length l.counts.items ≡ length l.initial.counts.items;
  counted : (i : ℕ) → i < length l.initial.counts.items
      → get_or l.counts.items i 0 ≡ occurrences (take l.site-index l.drops) i;
}
