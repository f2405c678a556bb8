use Rattle.std.proofs.Common.{ℕ, List, ◌∙◌, ap, arith, slice_index}
use Rattle.sand_settle.proofs.Driven.{few_counts}
use Rattle.sand_settle.proofs.driven_pile.DrivenPile.read_odometer.Goals as goal

pub add_times-requires-clause-bound : goal.add_times-requires-clause-bound
add_times-requires-clause-bound c = λ j l.
    let few = few_counts c.self.invariant j l in
    let same = ap (λ (xs : List ℕ). slice_index xs j) (c.copy_from_slice.ensures.after ∙ c.odometers.ensures.value) in
    omega arith
