use Rattle.sand_fronts.proofs.Common.{rules, ap, slice_index, ◌∙◌, bit, bit_none, tile_at}
use Rattle.sand_fronts.proofs.Filled.{number_had}
use Rattle.sand_fronts.proofs.tiling.tiles_with.Goals as goal

pub returns-clause-clear : goal.returns-clause-clear
returns-clause-clear c k p low = ap (λ w. bit w p) (c.in_ok-all.ensures.each k).clear ∙ bit_none p

pub returns-clause-heights : goal.returns-clause-heights
returns-clause-heights c k p low =
    let filled = c.in_ok-all.ensures.each k in
    number_had (tile_at c.in_ok-all.all.items k) p filled.clear
    ∙ filled.each (slice_index c.args.heights.now) (λ s n below left says. search rules) p low
