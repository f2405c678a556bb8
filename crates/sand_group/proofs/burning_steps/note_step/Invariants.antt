use Rattle.sand_group.proofs.Common.{ℕ, ◌≡◌, ◌<◌, ◌≤◌, length, slice_index, take, occurrences}
use Rattle.sand_group.proofs.burning_steps.note_step.Given as goal

abbrev pub invariant-loop-place : goal.invariant-loop-place
invariant-loop-place l = record {
  len : length l.times.items ≡ length l.initial.times.items;
  more : (i : ℕ) → occurrences (take l.start l.burnt) i ≤ occurrences (take l.place l.burnt) i;
  noted : (i : ℕ) → occurrences (take l.start l.burnt) i < occurrences (take l.place l.burnt) i
      → slice_index l.times.items i ≡ l.step;
  kept : (i : ℕ) → occurrences (take l.place l.burnt) i ≡ occurrences (take l.start l.burnt) i
      → slice_index l.times.items i ≡ slice_index l.initial.times.items i;
}
