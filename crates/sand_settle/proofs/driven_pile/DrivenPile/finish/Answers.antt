-- The heights of the start are overwritten with those on the tiles, and its odometer gains the counts there. That is
-- the driven record (`same_parts`), and the invariant says that it is a settled one.
use Rattle.sand_settle.proofs.Common.{◌≡◌, ◌∙◌, ◌+◌, List, ℕ, ap, arith, drop, length, slice_index, subst, sym, refl, take_at, Grid, PileView, SettledView, IsSomeSettledRecord, driven_record}
use Rattle.sand_fronts.specs.TiledPiles.{by_site}
use Rattle.sand_settle.proofs.OneRecord.{same_parts}
use Rattle.sand_settle.proofs.Driven.{few_counts}
use Rattle.sand_settle.proofs.driven_pile.DrivenPile.finish.Goals as goal

pub add_times-requires-clause-bound : goal.add_times-requires-clause-bound
add_times-requires-clause-bound c = λ j l.
    let few = few_counts c.self.invariant j l in
    let same = ap (λ (xs : List ℕ). slice_index xs j)
    (c.deref_mut-2.ensures.value ∙ ap (λ (r : SettledView). r.odometer) c.start.view_is) in
    omega arith

pub invariant_of-result : goal.invariant_of-result
invariant_of-result c =
    let heights =
    take_at c.read_heights.new.heights (drop (length c.read_heights.new.heights) c.into_parts-shape.result.1.items)
    c.into_parts-shape.result.1.len (omega (arith, c.read_heights.auto.heights, c.deref_mut.ensures.len)) in
    let odometer =
    take_at c.add_times.new.odometer (drop (length c.add_times.new.odometer) c.start.inside.odometer.items)
    c.start.inside.odometer.len (omega (arith, c.add_times.auto.odometer, c.deref_mut-2.ensures.len)) in
    let counts : c.deref_mut-2.result.now ≡ c.self.inside.start.odometer =
    c.deref_mut-2.ensures.value ∙ ap (λ (r : SettledView). r.odometer) c.start.view_is in
    let all = same_parts {q = driven_record c.self.inside.start c.self.inside.tiles
    c.self.inside.topplings c.self.inside.lost}
    (ap (λ (p : PileView). p.grid) c.from_counted.ensures ∙ c.into_parts-shape.ensures.shape
    ∙ ap (λ (r : SettledView). r.pile.grid) c.start.view_is)
    (ap (λ (p : PileView). p.heights) c.from_counted.ensures ∙ heights ∙ c.read_heights.ensures)
    (odometer ∙ c.add_times.ensures ∙ ap (λ (xs : List ℕ).
    by_site c.self.inside.tiles.grid (λ j. slice_index xs j + slice_index c.self.inside.tiles.times j)) counts
    ∙ ap (λ (g : Grid).
    by_site g (λ j. slice_index c.self.inside.start.odometer j + slice_index c.self.inside.tiles.times j))
    c.self.invariant.one_grid) refl refl in
    subst IsSomeSettledRecord (sym all) c.self.invariant.settled
