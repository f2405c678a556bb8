-- A listed tile has a set, so it is one of the tiles that there are (`tile_below`). It leaves the list when its set
-- becomes empty: so the list still has just the tiles with a set.
use Rattle.sand_fronts.proofs.Common.{◌-◌, ◌<◌, ap, arith, length, common_steps, MarksView}
use Rattle.sand_fronts.proofs.Marked.{tile_below}
use Rattle.sand_fronts.proofs.marks.Marks.take_last.Goals.{After-item-k}
use Rattle.sand_fronts.proofs.marks.Marks.take_last.Goals as goal

inside : (c : After-item-k) → c.item-k.result < length c.self.inside.words.items
inside c =
    let view = ap (λ (x : MarksView). length x.tiles) c.self.view_is in
    tile_below c.self.inside.words.items c.self.inside.tiles.items (c.len-last.result - 1) c.item-k.result
    c.self.invariant.1 (omega arith) c.item-k.ensures

pub index-set-requires : goal.index-set-requires
index-set-requires c = omega (arith, inside (goal.at.index-set-requires c).After-item-k)

pub index_mut-requires : goal.index_mut-requires
index_mut-requires c = omega (arith, inside (goal.at.index_mut-requires c).After-item-k)

pub returns-clause-tile : goal.returns-clause-tile
returns-clause-tile c = omega (
  arith,
  inside (goal.at.returns-clause-tile c).After-item-k,
  ap (λ (x : MarksView). length x.sets) c.self.view_is,
)

pub invariant_of-self : goal.invariant_of-self
invariant_of-self c = (grind (arith, common_steps), grind (arith, common_steps))
