use Rattle.sand_fronts.proofs.Common.{ℕ, ◌≡◌, ◌<◌, vec_len, vec_capacity, spilled_at}
use Rattle.sand_fronts.proofs.counts.with_lists.Given as goal

abbrev pub invariant-loop : goal.invariant-loop
invariant-loop l = record {
  made : vec_len l.spilled ≡ l.counter;
  room : vec_capacity l.spilled ≡ vec_capacity l.fn.spilled;
  same : (m p : ℕ) → p < 64 → spilled_at l.spilled.items m p ≡ spilled_at l.fn.spilled.items m p;
}
