use Rattle.sand_group.proofs.Common.{length, arith, le-leb, lt-leb, lists_more_no, lists_more_yes, lists_of}
use Rattle.sand_group.proofs.burning.first_to_burn.Goals as goal
use Rattle.sand_group.proofs.burning.first_to_burn.Goals.{then-heights-site+in_ok-push, else-heights-site}

pub loop-site-preserved : goal.loop-site-preserved
loop-site-preserved c =
    elim c.if-heights-site.branch [
      | then-heights-site+in_ok-push w ↦ rw (w.burnt-is, w.in_ok-push.ensures.items) (record {
        all = lists_more_yes c.loop-site.site _ _ c.loop-site.invariant.all
            (le-leb _ _ (omega (arith, w.if-heights-site.true, c.from.ensures)));
        room = omega (arith, w.in_ok-push.ensures.capacity, c.loop-site.invariant.room);
      })
      | else-heights-site w ↦ rw w.burnt-is (record {
        all = lists_more_no c.loop-site.site _ _ c.loop-site.invariant.all
            (lt-leb _ _ (omega (arith, w.if-heights-site.false, c.from.ensures)));
        room = c.loop-site.invariant.room;
      })
    ]

pub returns-clause-all : goal.returns-clause-all
returns-clause-all c = lists_of c.loop-site.site (length c.args.heights.now) _ c.loop-site.burnt.items
    (omega (arith, c.loop-site-test.false, c.loop-site.auto.site-end)) c.loop-site.invariant.all
