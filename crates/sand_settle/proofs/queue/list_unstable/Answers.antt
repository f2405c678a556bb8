-- No site is listed twice, so there is room for each (`lists_length`).
use Rattle.sand_settle.proofs.Common.{◌∙◌, ap, arith, get_or, lists_length, lists_none, lists_more, lists_of, ListView, may_topple}
use Rattle.sand_settle.proofs.queue.list_unstable.Goals as goal

pub push_if-requires-clause-room : goal.push_if-requires-clause-room
push_if-requires-clause-room c =
    let few = lists_length _ _ _ c.loop-site.invariant.listed in
    omega (arith, c.loop-site.invariant.room, c.requires.room)

pub loop-site-init : goal.loop-site-init
loop-site-init c = record {
  listed = rw (ap (λ (l : ListView). l.items) c.clear.ensures)
      (lists_none (may_topple (λ j. get_or c.args.heights.now j 0)));
  room = ap (λ (l : ListView). l.room) c.clear.ensures;
}

pub loop-site-preserved : goal.loop-site-preserved
loop-site-preserved c = record {
  listed = rw (ap (λ (l : ListView). l.items) c.push_if.ensures) (lists_more c.loop-site.site
      (may_topple (λ j. get_or c.args.heights.now j 0)) c.loop-site.generation.items c.loop-site.invariant.listed);
  room = ap (λ (l : ListView). l.room) c.push_if.ensures ∙ c.loop-site.invariant.room;
}

pub returns-clause-waiting : goal.returns-clause-waiting
returns-clause-waiting c = lists_of _ _ _ _ (omega (arith, c.loop-site.auto.site-end)) c.loop-site.invariant.listed
