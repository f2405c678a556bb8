-- An inner site has a neighbour at each of the four places (`around_inner`).
use Rattle.sand_trees.proofs.Common.{arith, slice_index}
use Rattle.sand_trees.proofs.Heights.{around_inner, heights_fewer, heights_more, near_inner}
use Rattle.sand_trees.proofs.bijection.write_inner.Goals as goal

pub overflow_sub-around : goal.overflow_sub-around
overflow_sub-around c =
    let width = c.width-width.ensures.value in
    let near = near_inner c.args.shape c.loop-site.site (omega (arith, c.requires.inside, c.loop-site-test.true))
    (c.requires.inner c.loop-site.site c.loop-site.auto.site c.loop-site-test.true) in
    omega (arith, near.1)

pub bounds-depths-site-in-loop-site-2 : goal.bounds-depths-site-in-loop-site-2
bounds-depths-site-in-loop-site-2 c =
    let near = near_inner c.args.shape c.loop-site.site (omega (arith, c.requires.inside, c.loop-site-test.true))
    (c.requires.inner c.loop-site.site c.loop-site.auto.site c.loop-site-test.true) in
    omega (arith, near.0, near.2, c.requires.before.depths_each)

pub bounds-depths-site-in-loop-site-3 : goal.bounds-depths-site-in-loop-site-3
bounds-depths-site-in-loop-site-3 c =
    let width = c.width-width.ensures.value in
    let near = near_inner c.args.shape c.loop-site.site (omega (arith, c.requires.inside, c.loop-site-test.true))
    (c.requires.inner c.loop-site.site c.loop-site.auto.site c.loop-site-test.true) in
    omega (arith, near.2, c.requires.before.depths_each)

pub loop-site-preserved : goal.loop-site-preserved
loop-site-preserved c =
    let inner = c.requires.inner c.loop-site.site c.loop-site.auto.site c.loop-site-test.true in
    heights_more c.loop-site.invariant (omega (arith, c.requires.inside, c.loop-site-test.true))
    (around_inner c.args.shape (slice_index c.args.depths.now) c.loop-site.site c.width-width.result inner c.width-width.ensures.value)
    c.height_among.ensures

pub returns : goal.returns
returns c = heights_fewer c.args.to c.loop-site.invariant c.loop-site-test.false
