use Rattle.std.proofs.Common.{rules, refl}
use Rattle.sand_trees.proofs.Heights.{among}
use Rattle.sand_trees.proofs.around.height_among.Goals as goal

pub returns : goal.returns
returns c = among c.args.around.now c.args.depth c.args.direction c.count_below-below.result c.count_passed-passed.result
    c.count_passed-with_own.result c.from.result _ c.requires c.count_below-below.ensures
    (rw c.saturating_sub-above.ensures at c.count_passed-passed.ensures)
    (rw (c.saturating_sub-above.ensures, c.saturating_add.ensures) at c.count_passed-with_own.ensures)
    (search rules) refl
