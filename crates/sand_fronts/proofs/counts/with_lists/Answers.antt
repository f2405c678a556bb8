-- A tile without a list has nothing spilled, so a list of zeros changes nothing (`one_list`).
use Rattle.std.proofs.Common.{rules}
use Rattle.sand_fronts.proofs.Counted.{one_list}
use Rattle.sand_fronts.proofs.counts.with_lists.Goals as goal

pub loop-preserved : goal.loop-preserved
loop-preserved c = record {
  made = search rules;
  room = search rules;
  same = λ m p low.
      rw (c.push_reserved.ensures.items, one_list c.loop.spilled.items m p low) (c.loop.invariant.same m p low);
}
