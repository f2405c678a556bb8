-- These are the depths at the four places (`around_is`): a neighbour or the sink is at each (`place_inside`).
use Rattle.sand_trees.proofs.Common.{place_inside}
use Rattle.sand_trees.proofs.Edges.{around_is}
use Rattle.sand_trees.proofs.around.depths_at_edge.Goals as goal

pub depth_at-requires : goal.depth_at-requires
depth_at-requires c = place_inside c.args.shape c.args.site _ 0 _ c.neighbours.ensures c.requires.site c.requires.len

pub depth_at-requires-2 : goal.depth_at-requires-2
depth_at-requires-2 c = place_inside c.args.shape c.args.site _ 1 _ c.neighbours.ensures c.requires.site c.requires.len

pub depth_at-requires-3 : goal.depth_at-requires-3
depth_at-requires-3 c = place_inside c.args.shape c.args.site _ 2 _ c.neighbours.ensures c.requires.site c.requires.len

pub depth_at-requires-4 : goal.depth_at-requires-4
depth_at-requires-4 c = place_inside c.args.shape c.args.site _ 3 _ c.neighbours.ensures c.requires.site c.requires.len

pub returns : goal.returns
returns c = around_is c.args.shape _ c.args.site _ _ _ _ _ c.neighbours.ensures
    c.depth_at.ensures c.depth_at-2.ensures c.depth_at-3.ensures c.depth_at-4.ensures
