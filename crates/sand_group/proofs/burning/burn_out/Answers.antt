-- The sites before the head have burnt and are taken off their neighbours' numbers (`counts`). The one at the head is
-- in the list only once (`read_fresh`), so its neighbours still count it (`enough_left`), and it burns in turn
-- (`one_more_burns`).
use Rattle.sand_group.proofs.Common.{arith, slice_index, vec_len, lists_length, read_below, read_fresh}
use Rattle.sand_group.proofs.FireLeavesForbidden.{enough_left, one_more_burns}
use Rattle.sand_group.proofs.burning.burn_out.Goals as goal

pub spread_fire-requires-clause-site : goal.spread_fire-requires-clause-site
spread_fire-requires-clause-site c =
    let all = c.loop-head.invariant.all in
    read_below _ _ _ c.loop-head.head _ all (omega (arith, c.loop-head.burnt.ok)) c.index-site.ensures

pub spread_fire-requires-clause-unburnt : goal.spread_fire-requires-clause-unburnt
spread_fire-requires-clause-unburnt c j m =
    let all = c.loop-head.invariant.all in
    let inside = read_below _ _ _ c.loop-head.head _ all (omega (arith, c.loop-head.burnt.ok)) c.index-site.ensures in
    let fresh = read_fresh _ _ _ c.loop-head.head _ all (omega (arith, c.loop-head.burnt.ok)) c.index-site.ensures in
    enough_left c.args.lattice.now _ _ c.index-site.result.now j c.loop-head.invariant.counts inside m fresh

pub loop-head-smaller : goal.loop-head-smaller
loop-head-smaller c = omega (arith, lists_length _ _ _ c.loop-head.invariant.all, c.loop-head.burnt.ok)

pub loop-head-preserved : goal.loop-head-preserved
loop-head-preserved c =
    let more = one_more_burns c.args.lattice.now (slice_index c.args.heights.now)
    (slice_index c.loop-head.unburnt.items) (slice_index c.spread_fire.new.unburnt.items)
    c.loop-head.burnt.items c.spread_fire.new.burnt.items (vec_len c.loop-head.burnt) c.loop-head.head
    c.index-site.result.now c.loop-head.invariant.all (omega (arith, c.loop-head.burnt.ok)) (omega arith)
    c.index-site.ensures c.loop-head.invariant.counts c.loop-head.invariant.in_turn
    c.spread_fire.ensures.kept c.spread_fire.ensures.fewer in
    record {
      len = c.spread_fire.ensures.len;
      head = omega (arith, more.0, c.spread_fire.new.burnt.ok);
      counts = more.1;
      all = c.spread_fire.ensures.all;
      room = c.spread_fire.ensures.room;
      in_turn = more.2;
    }
