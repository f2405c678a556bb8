-- A tile without a list has nothing spilled, so lists of zeros change nothing. Then the counts of this tile move from
-- its planes to its list and stay the same (`adds_at` with no set), and empty planes have room (`recent_none`).
use Rattle.sand_fronts.proofs.Common.{arith, with_item, common_steps, bit_none}
use Rattle.sand_fronts.proofs.Counted.{adds_at, recent_none}
use Rattle.sand_fronts.proofs.counts.Counts.spill.Goals as goal

pub returns-clause-sound : goal.returns-clause-sound
returns-clause-sound c = recent_none (grind (arith, common_steps))

pub returns-clause-added : goal.returns-clause-added
returns-clause-added c =
    let k = c.args.k in
    let ss = c.replace_with.new.dest in
    let lists = c.replace_with.ensures in
    adds_at c.args.self.now (with_item ss k c.spill.new.spilled) k 0 c.spill.new.recent c.requires.tile lists.1.0
    (λ p low. grind (arith, common_steps, c.spill.ensures.kept p low, bit_none p, lists.1.1 k p low))
    (λ m p ne low. grind (arith, common_steps, lists.1.1 m p low))
