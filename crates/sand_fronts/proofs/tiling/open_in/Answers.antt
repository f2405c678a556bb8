-- All places of an inner tile are sites (`inner_site`). Any other tile is filled with 1 at each site, which is its low
-- bit (`low_of`).
use Rattle.std.proofs.Common.{rules, ◌∙◌, sym}
use Rattle.sand_fronts.proofs.OnTiles.{on_site}
use Rattle.sand_fronts.proofs.Filled.{full_word, inner_site, low_of}
use Rattle.sand_fronts.proofs.tiling.open_in.Goals as goal

pub returns-then-is_inner : goal.returns-then-is_inner
returns-then-is_inner c p low = full_word p low
    ∙ sym (on_site c.args.shape (λ j. 1) c.args.k p (inner_site c.args.shape c.args.k p (search rules) low))

pub returns : goal.returns
returns c = low_of c.args.shape c.args.k c.tile_of.result
    (c.tile_of.ensures.each (λ j. 1) (λ s n below left says. search rules))
