use Rattle.sand_c.proofs.Common.{◌≡◌, length, vec_len, vec_capacity, sites, AreRecords}
use Rattle.sand_c.proofs.settling.settle_each.Given as goal

abbrev pub invariant-loop-next : goal.invariant-loop-next
invariant-loop-next l = record {
  records : AreRecords l.shape l.heights l.next l.all;
  pile_each : length l.pile ≡ sites l.shape;
  odometer_each : length l.odometer ≡ sites l.shape;
  lost_len : vec_len l.all.lost ≡ l.next;
  topplings_len : vec_len l.all.topplings ≡ l.next;
  lost_room : vec_capacity l.all.lost ≡ l.count;
  topplings_room : vec_capacity l.all.topplings ≡ l.count;
}
