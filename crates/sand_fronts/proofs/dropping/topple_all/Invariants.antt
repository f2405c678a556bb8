use Rattle.sand_fronts.proofs.Common.{◌≡◌, ◌≤◌, topplings, lost, weight, heights_before, HasWaves, AreMarked, tiles_of, counts_of, marks_of, grown, IsSand, AreCounts}
use Rattle.sand_fronts.proofs.ManyWaves.{heights_now, AreWaves}
use Rattle.sand_fronts.proofs.dropping.topple_all.Given as goal

abbrev pub invariant-waves : goal.invariant-waves
invariant-waves l = record {
  sand : IsSand l.fn.board.shape l.sand;
  counts : AreCounts l.fn.board.shape l.counts;
  marked : AreMarked (counts_of l.fn.counts) (counts_of l.counts) (marks_of l.fn.counts) (marks_of l.counts);
  passed : AreWaves l.fn.board.shape l.fn.drop.site l.more (tiles_of l.fn.sand)
      (tiles_of l.sand) (counts_of l.fn.counts) (counts_of l.counts);
  waves : HasWaves l.fn.board.shape l.fn.drop.site
      (heights_before l.fn.board.shape l.fn.drop.site (tiles_of l.fn.sand))
      (heights_now l.fn.board.shape l.fn.drop.site l.more (tiles_of l.sand)) l.number l.fn.sizes l.sizes;
  few : l.number ≤ l.total.size;
  size : l.total.size ≡ topplings l.fn.board.shape (grown l.fn.board.shape l.fn.counts l.counts);
  lost : l.total.lost ≡ lost l.fn.board.shape (grown l.fn.board.shape l.fn.counts l.counts);
}

abbrev pub decreases-waves : goal.decreases-waves
decreases-waves l = weight l.fn.board.shape (heights_now l.fn.board.shape l.fn.drop.site l.more (tiles_of l.sand))
