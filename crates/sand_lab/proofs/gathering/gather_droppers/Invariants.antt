use Rattle.sand_lab.proofs.Common.{◌≡◌, ◌++◌, ◌+◌, ◌≤◌, All, length, vec_len, vec_capacity, into_iter_items, IsPassOf, Dropper, parts_of, all_receipts, HoldsReceipts, lists}
use Rattle.sand_lab.proofs.gathering.gather_droppers.Given as goal

abbrev pub invariant-loop-dropper : goal.invariant-loop-dropper
invariant-loop-dropper l = record {
  of_pile : IsPassOf l.pile l.first;
  first : l.first ≡ record l.fn.first { seen = l.first.seen; receipts = l.fn.first.receipts ++ all_receipts l.yielded };
  items : l.yielded ++ into_iter_items l.dropper-iterator ≡ l.fn.droppers.items;
  rest : All (λ (d : Dropper). HoldsReceipts l.pile d.pass) (into_iter_items l.dropper-iterator);
  room : vec_len l.all + length (into_iter_items l.dropper-iterator) ≤ vec_capacity l.all;
  parts : lists l.all.items ≡ parts_of l.yielded;
}
