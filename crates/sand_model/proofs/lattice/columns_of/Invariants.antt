use Rattle.sand_model.proofs.Common.{◌≡◌, ℕ, ◌<◌, get_or, vec_len, vec_capacity, sites, column}
use Rattle.sand_model.proofs.lattice.columns_of.Given as goal

abbrev pub invariant-loop : goal.invariant-loop
invariant-loop l = record {
  column_is : l.column ≡ column l.fn.shape l.counter;
  made : vec_len l.columns ≡ l.counter;
  room : vec_capacity l.columns ≡ sites l.fn.shape;
  each : (i : ℕ) → i < l.counter → get_or l.columns.items i 0 ≡ column l.fn.shape i;
}
