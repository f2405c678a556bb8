use Rattle.sand_lab.proofs.Common.{◌≡◌, ℕ, ◌+◌, ◌-◌, ◌*◌, ◌<◌, ◌≤◌, length, slice_index, at_rest, LeavesAtMost, CanSweep}
use Rattle.sand_lab.proofs.workers.WorkerTakeTurns.take_turns.Given as goal

abbrev pub invariant-loop-turn : goal.invariant-loop-turn
invariant-loop-turn g l = record {
  begun : l.turn ≡ 0 → l.self.pass ≡ l.fn.self.pass;
  who : l.self.who ≡ l.fn.self.who;
  can : CanSweep l.pile l.self;
  kept : l.self.pass ≡ record l.fn.self.pass { counts = l.self.pass.counts };
  same_rows : length l.self.pass.counts ≡ length l.fn.self.pass.counts;
  never_fall : (j : ℕ) → slice_index l.fn.self.pass.counts j ≤ slice_index l.self.pass.counts j;
  enough : 0 < l.turn → (j : ℕ) → j < length l.fn.self.pass.counts
      → LeavesAtMost l.pile.terms (at_rest l.fn.self.pass) ((at_rest l.fn.self.pass).base + j)
      (4 * (slice_index l.self.pass.counts j - slice_index l.fn.self.pass.counts j) + 3);
}
