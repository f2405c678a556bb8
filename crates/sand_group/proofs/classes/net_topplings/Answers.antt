use Rattle.sand_group.proofs.Common.{◌+◌, ◌*◌, rules, pos, ◌-ℤ◌, slice_index, ints}
use Rattle.sand_group.proofs.IntegerLists.{integer_pushed}
use Rattle.sand_group.proofs.classes.net_topplings.Goals as goal

pub loop-site-preserved : goal.loop-site-preserved
loop-site-preserved c = record {
  len = search rules;
  each = integer_pushed
      (λ k. pos (slice_index c.args.up.now k + slice_index c.args.last.now k)
      -ℤ pos (slice_index c.args.down.now k + 2 * slice_index c.args.full.now k))
      c.loop-site.firing.items c.push.new.self.items _ c.loop-site.site c.in_ok-push.ensures.items
      c.loop-site.invariant.len (search (rules, ints)) c.loop-site.invariant.each;
}
