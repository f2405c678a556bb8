use Rattle.sand_shared.proofs.Common.{◌≡◌, ◌+◌, ◌++◌, drop, length, vec_capacity, receipts_from}
use Rattle.sand_shared.proofs.dropping_lists.note.Given as goal

abbrev pub invariant-drops : goal.invariant-drops
invariant-drops l = record {
  next : l.next ≡ l.number + l.site-index;
  capacity : vec_capacity l.receipts ≡ vec_capacity l.initial.receipts;
  len : length l.receipts.items ≡ length l.initial.receipts.items + l.site-index;
  rest : l.receipts.items ++ receipts_from l.next (drop l.site-index l.drops)
      ≡ l.initial.receipts.items ++ receipts_from l.number l.drops;
}
