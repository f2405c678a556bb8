use Rattle.std.proofs.Common.{arith}
use Rattle.sand_trees.proofs.Heights.{heights_fewer, heights_more}
use Rattle.sand_trees.proofs.bijection.write_some.Goals as goal

pub loop-site-preserved : goal.loop-site-preserved
loop-site-preserved c =
    heights_more c.loop-site.invariant (omega (arith, c.requires.inside, c.loop-site-test.true)) c.depths_at_edge-around.ensures
    c.height_among.ensures

pub returns : goal.returns
returns c = heights_fewer c.args.to c.loop-site.invariant c.loop-site-test.false
