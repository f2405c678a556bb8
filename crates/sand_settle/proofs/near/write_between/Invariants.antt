use Rattle.sand_settle.proofs.Common.{◌≡◌, ◌<◌, ◌≤◌, ℕ, length, slice_index, Tells}
use Rattle.sand_settle.proofs.near.write_between.Given as goal

abbrev pub invariant-loop-site : goal.invariant-loop-site
invariant-loop-site g l = record {
  len : length l.list ≡ length l.initial.list;
  written : (v : ℕ → ℕ) → Tells (length l.initial.list) (goal.F-post g l.numbers) v
      → (i : ℕ) → l.first ≤ i → i < l.site → slice_index l.list i ≡ v i;
  before : (i : ℕ) → i < l.first → slice_index l.list i ≡ slice_index l.initial.list i;
  after : (i : ℕ) → l.site ≤ i → slice_index l.list i ≡ slice_index l.initial.list i;
}
