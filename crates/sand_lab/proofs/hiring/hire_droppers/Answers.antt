use Rattle.sand_lab.proofs.Common.{rules, arith, ◌≡◌, ℕ, [], length, ap, ap₂, sym, subst, ◌∙◌, sites, PassView, no_rows, Dropper, EachAt, IsDropper, Reading}
use Rattle.sand_lab.proofs.EachAtItsPlace.{each_push}
use Rattle.sand_lab.proofs.hiring.hire_droppers.Goals as goal

pub loop-who-preserved : goal.loop-who-preserved
loop-who-preserved c =
    let s = c.args.pile.now in
    let i = c.loop-who.invariant in
    let P : ℕ → Dropper → Type 0 = IsDropper s c.args.wish c.args.epoch in
    let reading : ℕ → ℕ → Reading = λ n t. record { sites = n; seed = c.args.wish.seed; stream = t; read = 0 } in
    let dropper : Dropper = record {
      who = c.loop-who.who;
      sites = c.new-sites.result;
      batch = c.in_ok-batch.batch;
      counts = c.in_ok-counts.counts;
      pass = c.in-Ok.pass;
    } in
    let one : P c.loop-who.who dropper = record {
      who = search rules;
      sites = c.new-sites.ensures ∙ ap₂ reading (ap sites c.requires.shape) c.stream_of.ensures;
      pass = c.in-Ok.ensures.child
          ∙ ap₂ (λ (p : PassView) (n : ℕ). record p { left = n; receipts = []; rows = no_rows; counts = [] })
          i.first c.from.ensures;
      none_read = search rules;
      room = search rules;
      counts = search rules;
    } in
    let place : c.loop-who.who ≡ length c.loop-who.droppers.items = search rules in
    let parent = c.in-Ok.ensures.parent in
    record {
      droppers = subst (EachAt P) (sym c.push_reserved.ensures.items)
          (each_push P c.loop-who.droppers.items dropper i.droppers (subst (λ (n : ℕ). P n dropper) place one));
      len = search rules;
      room = search rules;
      first = search rules;
      left = grind arith;
    }
