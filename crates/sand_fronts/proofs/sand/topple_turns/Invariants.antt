-- At least as many sites have toppled as the position says, so it is never more than the number of sites.
use Rattle.sand_fronts.proofs.Common.{heights_before, tiles_of, free_of, IsSand, sites, ◌+◌, ◌-◌}
use Rattle.sand_fronts.proofs.Turns.{IsOn}
use Rattle.sand_fronts.proofs.sand.topple_turns.Given as goal

abbrev pub invariant-turns : goal.invariant-turns
invariant-turns l = record {
  sand : IsSand l.fn.board.shape l.sand;
  on : IsOn l.fn.board.shape l.fn.drop.site (heights_before l.fn.board.shape l.fn.drop.site (tiles_of l.fn.sand))
      (free_of l.fn.board) (tiles_of l.sand) l.sand.list.items l.kept l.position;
}

abbrev pub decreases-turns : goal.decreases-turns
decreases-turns l = sites l.fn.board.shape + 1 - l.position
