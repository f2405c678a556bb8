-- The same as in `burn_out`, up to the end that the list had: what joins the list comes behind it (`kept`).
use Rattle.sand_group.proofs.Common.{◌∙◌, sym, ap, arith, slice_index, take, vec_len, length, take-take, length-take, read_below, read_fresh}
use Rattle.sand_group.proofs.FireLeavesForbidden.{enough_left, one_more_burns}
use Rattle.sand_group.proofs.burning.burn_step.Goals as goal

pub spread_fire-requires-clause-site : goal.spread_fire-requires-clause-site
spread_fire-requires-clause-site c =
    let all = c.loop-head.invariant.all in
    read_below _ _ _ c.loop-head.head _ all (omega (arith, c.loop-head.burnt.ok)) c.index-site.ensures

pub spread_fire-requires-clause-unburnt : goal.spread_fire-requires-clause-unburnt
spread_fire-requires-clause-unburnt c j m =
    let all = c.loop-head.invariant.all in
    let inside = read_below _ _ _ c.loop-head.head _ all (omega (arith, c.loop-head.burnt.ok)) c.index-site.ensures in
    let fresh = read_fresh _ _ _ c.loop-head.head _ all (omega (arith, c.loop-head.burnt.ok)) c.index-site.ensures in
    enough_left c.args.lattice.now _ _ c.index-site.result.now j c.loop-head.invariant.counts inside m fresh

pub loop-head-preserved : goal.loop-head-preserved
loop-head-preserved c =
    let more = one_more_burns c.args.lattice.now (slice_index c.args.heights.now)
    (slice_index c.loop-head.unburnt.items) (slice_index c.spread_fire.new.unburnt.items)
    c.loop-head.burnt.items c.spread_fire.new.burnt.items (vec_len c.loop-head.burnt) c.loop-head.head
    c.index-site.result.now c.loop-head.invariant.all (omega (arith, c.loop-head.burnt.ok)) (omega arith)
    c.index-site.ensures c.loop-head.invariant.counts c.loop-head.invariant.in_turn
    c.spread_fire.ensures.kept c.spread_fire.ensures.fewer in
    record {
      len = c.spread_fire.ensures.len;
      head = omega arith;
      longer = omega (
        arith,
        c.loop-head.invariant.longer,
        ap length c.spread_fire.ensures.kept,
        length-take (vec_len c.loop-head.burnt) c.spread_fire.new.burnt.items,
        c.loop-head.burnt.ok,
        c.spread_fire.new.burnt.ok,
      );
      kept = sym (take-take c.len-end.result (vec_len c.loop-head.burnt) c.spread_fire.new.burnt.items (omega arith))
          ∙ ap (take c.len-end.result) c.spread_fire.ensures.kept ∙ c.loop-head.invariant.kept;
      counts = more.1;
      all = c.spread_fire.ensures.all;
      room = c.spread_fire.ensures.room;
      in_turn = more.2;
    }
