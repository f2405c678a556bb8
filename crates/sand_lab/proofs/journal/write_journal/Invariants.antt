use Rattle.sand_lab.proofs.Common.{◌≡◌, ◌*◌, vec_len, flattened, lists}
use Rattle.sand_lab.proofs.EntriesAtNumbers.{NotedBelow}
use Rattle.sand_lab.proofs.journal.write_journal.Given as goal

abbrev pub invariant-loop-dropper : goal.invariant-loop-dropper
invariant-loop-dropper l = record {
  len : vec_len l.journal ≡ vec_len l.fn.journal;
  noted : NotedBelow l._drops (l.dropper * l._drops) (flattened (lists l.parts)) l.journal.items;
}
