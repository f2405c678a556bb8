use Rattle.sand_shared.proofs.Common.{◌≡◌, ℕ, ◌<◌, Some, length, get_or, slice_get, receipt}
use Rattle.sand_shared.proofs.closing.fill.Given as goal

abbrev pub invariant-loop-receipt : goal.invariant-loop-receipt
invariant-loop-receipt l = record {
  len : length l.history.items ≡ length l.initial.history.items;
  told : (k : ℕ) → k < l.receipt-index
      → slice_get l.history.items (get_or l.receipts k (receipt 0 0)).number
      ≡ Some (get_or l.receipts k (receipt 0 0)).site;
}
