-- The lists that are copied have the record of each pile, and the j-th is that of the j-th pile in the arguments
-- (`settled_at`).
use Rattle.sand_c.proofs.Common.{◌∙◌, length, sides_of}
use Rattle.sand_c.proofs.SettledAt.{settled_at}
use Rattle.sand_c.proofs.settling.sandpile_settle_all.Goals as goal

pub returns-clause-settled : goal.returns-clause-settled
returns-clause-settled c =
    let suits = c.in-Ok.ensures in
    λ zero j lt. rw (
      c.copy_from_slice.ensures.after ∙ c.deref.ensures.value,
      c.copy_from_slice-2.ensures.after ∙ c.deref-2.ensures.value,
      c.copy_from_slice-3.ensures.after ∙ c.deref-3.ensures.value,
      c.copy_from_slice-4.ensures.after ∙ c.deref-4.ensures.value,
    ) (settled_at (sides_of c.args.width c.args.height c.args.cylinder) c.in-Ok.shape c.args.heights.now
    c.args.odometer.now (length c.args.lost.now) c.in-Ok-settle_each.all (rw c.sides_of-sides.ensures at suits.grid)
    suits.heights suits.odometer suits.within c.in-Ok-settle_each.ensures j lt)
