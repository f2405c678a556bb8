-- The sites are tried in ascending order, so each push keeps the list ascending (`increasing_push`).
use Rattle.sand_group.proofs.Common.{not, ap, arith, le-leb, lt-leb, lists_below, lists_more_yes, lists_more_no}
use Rattle.sand_group.proofs.SitesInListing.{increasing_push}
use Rattle.sand_group.proofs.burning.left_over.Goals as goal
use Rattle.sand_group.proofs.burning.left_over.Goals.{then-heights-site+in_ok-push, else-heights-site}

pub loop-site-preserved : goal.loop-site-preserved
loop-site-preserved c =
    elim c.if-heights-site.branch [
      | then-heights-site+in_ok-push w ↦ rw (w.left-is, w.in_ok-push.ensures.items) (record {
        all = lists_more_yes c.loop-site.site _ _ c.loop-site.invariant.all
            (ap not (lt-leb _ _ (omega (arith, w.if-heights-site.true, c.from.ensures))));
        ascending = increasing_push c.loop-site.site _ c.loop-site.invariant.ascending
            (lists_below c.loop-site.site _ _ c.loop-site.invariant.all);
      })
      | else-heights-site w ↦ rw w.left-is (record {
        all = lists_more_no c.loop-site.site _ _ c.loop-site.invariant.all
            (ap not (le-leb _ _ (omega (arith, w.if-heights-site.false, c.from.ensures))));
        ascending = c.loop-site.invariant.ascending;
      })
    ]
