use Rattle.sand_fronts.proofs.Common.{◌≡◌, ◌+◌, ◌-◌, ◌*◌, ◌%◌, ◌<◌, ◌≤◌, ℕ, length, slice_index, sites, TellsEights}
use Rattle.sand_fronts.proofs.reading.add_eights.Given as goal

abbrev pub invariant-eights : goal.invariant-eights
invariant-eights g l = record {
  len : length l.list ≡ length l.initial.list;
  column : l.spot.column < l.shape.width;
  first : l.spot.column % 8 ≡ 0;
  within : l.spot.row * l.shape.width + l.spot.column ≤ sites l.shape;
  added : (v : ℕ → ℕ) → TellsEights l.shape (goal.F-post g l.numbers) v → (j : ℕ)
      → j < l.spot.row * l.shape.width + l.spot.column
      → slice_index l.list j ≡ slice_index l.initial.list j + v j;
  rest : (j : ℕ) → l.spot.row * l.shape.width + l.spot.column ≤ j
      → slice_index l.list j ≡ slice_index l.initial.list j;
}

abbrev pub decreases-eights : goal.decreases-eights
decreases-eights g l = sites l.shape - (l.spot.row * l.shape.width + l.spot.column)
