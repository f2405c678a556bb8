-- At the start the tiles have the settled heights and no counts, so the driven record is the settled one
-- (`driven_start`). The grains on it and those lost are together the start's, so their sum fits.
use Rattle.sand_settle.proofs.Common.{ℕ, List, ◌∙◌, ap, sym, arith, refl, sum, slice_index, Grid, sites, PileView, driven_view}
use Rattle.sand_settle.proofs.Driven.{IsAtStart, start_record, driven_start}
use Rattle.sand_settle.proofs.driven_pile.DrivenPile.of_settled.Goals.{After-grains}
use Rattle.sand_settle.proofs.driven_pile.DrivenPile.of_settled.Goals as goal

at_start : (c : After-grains)
    → IsAtStart c.args.settled c.in-Ok.tiles c.topplings-topplings.result c.lost-lost.result
at_start c = record {
  paid = c.requires;
  settled = c.pile.ensures.settled;
  one_grid = c.in-Ok.ensures.grid ∙ c.shape-shape.ensures.value ∙ ap (λ (p : PileView). p.grid) c.pile.ensures.value;
  by_site = c.in-Ok.ensures.by_site;
  heights = λ j l.
      let same =
      ap (λ (g : Grid). sites g) (c.shape-shape.ensures.value ∙ ap (λ (p : PileView). p.grid) c.pile.ensures.value) in
      c.in-Ok.ensures.heights j (omega (arith, l)) ∙ ap (λ (xs : List ℕ). slice_index xs j)
      (c.heights.ensures.value ∙ ap (λ (p : PileView). p.heights) c.pile-2.ensures.value);
  none = c.in-Ok.ensures.none;
  all_topplings = c.topplings-topplings.ensures;
  all_lost = c.lost-lost.ensures;
}

pub overflow_add-grains : goal.overflow_add-grains
overflow_add-grains c =
    let driven = driven_start (at_start (goal.at.overflow_add-grains c).After-grains) refl in
    let sums = c.grains.ensures.value ∙ ap (λ (p : PileView). sum p.heights) c.pile-3.ensures.value in
    omega (arith, driven.paid.limit, driven.all_grains)

pub invariant_of-result : goal.invariant_of-result
invariant_of-result c =
    let sums = c.grains.ensures.value ∙ ap (λ (p : PileView). sum p.heights) c.pile-3.ensures.value in
    driven_start (at_start (goal.at.invariant_of-result c).After-grains) (omega arith)

pub returns-clause-settled : goal.returns-clause-settled
returns-clause-settled c =
    ap (λ r. driven_view r 0) (sym (start_record (at_start (goal.at.returns-clause-settled c).After-grains)))
