-- A sweep that topples raises the sum of the counts, and after each sweep this is below 2^54: so the sweeps end.
use Rattle.sand_shared.proofs.Common.{◌≡◌, ℕ, ◌-◌, ◌^◌, ◌≤◌, [], length, sum, slice_index, looked}
use Rattle.sand_shared.proofs.steps.Words.sweep_out.Given as goal

abbrev pub invariant-sweeps : goal.invariant-sweeps
invariant-sweeps l = record {
  table : l.seat.table_id ≡ l.initial.seat.table_id;
  id : l.seat.id ≡ l.initial.seat.id;
  bare : l.seat.me.1 ≡ [];
  view : l.seat.me.0 ≡ record (looked l.initial.seat.me.0
      l.seat.me.0.spot l.seat.me.0.least) { counts = l.counts.items };
  len : length l.counts.items ≡ length l.initial.counts.items;
  never_fall : (j : ℕ) → slice_index l.initial.counts.items j ≤ slice_index l.counts.items j;
}

abbrev pub decreases-sweeps : goal.decreases-sweeps
decreases-sweeps l = 2 ^ 54 - sum l.counts.items
