use Rattle.sand_settle.proofs.Common.{◌≡◌, ◌*◌, ◌<◌, ◌≤◌, ◌⊎◌, ℕ, length, slice_index, sites, Tells}
use Rattle.sand_model.specs.Grid.{distance}
use Rattle.sand_settle.proofs.near.write_near.Given as goal

abbrev pub invariant-loop-row : goal.invariant-loop-row
invariant-loop-row g l = record {
  len : length l.list ≡ length l.initial.list;
  near : (v : ℕ → ℕ) → Tells (sites l.shape) (goal.F-post g l.numbers) v
      → (i : ℕ) → i < sites l.shape → i < l.row * l.shape.width → distance l.shape l.site i ≤ l.reach → slice_index l.list i ≡ v i;
  other : (v : ℕ → ℕ) → Tells (sites l.shape) (goal.F-post g l.numbers) v
      → (i : ℕ) → i < sites l.shape → (slice_index l.list i ≡ slice_index l.initial.list i) ⊎ (slice_index l.list i ≡ v i);
  rest : (i : ℕ) → l.row * l.shape.width ≤ i → slice_index l.list i ≡ slice_index l.initial.list i;
}
