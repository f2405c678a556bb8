use Rattle.std.proofs.Common.{◌≡◌, vec_len}
use Rattle.sand_lab.proofs.EntriesAtNumbers.{PartNoted, AgreeElse}
use Rattle.sand_lab.proofs.journal.write_part.Given as goal

abbrev pub invariant-loop-receipt : goal.invariant-loop-receipt
invariant-loop-receipt l = record {
  len : vec_len l.journal ≡ vec_len l.fn.journal;
  noted : PartNoted l.dropper l.receipt-index l.receipts l.journal.items;
  others : AgreeElse l.receipt-index l.receipts l.fn.journal.items l.journal.items;
}
