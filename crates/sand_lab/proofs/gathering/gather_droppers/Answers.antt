use Rattle.sand_lab.proofs.Common.{rules, arith, ◌≡◌, suc, List, Vec, Global, [], ◌∷◌, ◌++◌, All, ap, ap₂, sym, subst, ◌∙◌, append_assoc, flat_map_more, map-append, into_iter_items, Receipt, PassView, Dropper, all_receipts, HoldsReceipts}
use Rattle.sand_lab.proofs.gathering.gather_droppers.Goals as goal

pub loop-dropper-preserved : goal.loop-dropper-preserved
loop-dropper-preserved c =
    let i = c.loop-dropper.invariant in
    let ds = c.loop-dropper.yielded in
    let d = c.in-Some.dropper in
    let left = into_iter_items c.next.new.self in
    let steps : into_iter_items c.loop-dropper.dropper-iterator ≡ d ∷ left = c.in-Some.ensures.steps.0 in
    let before : List Receipt = c.args.first.now.receipts in
    let seen = c.take_in_receipts.new.first.seen in
    let receipts : c.loop-dropper.first.receipts ++ d.pass.receipts ≡ before ++ all_receipts (ds ++ d ∷ []) =
    ap (λ (p : PassView). p.receipts ++ d.pass.receipts) i.first
    ∙ flat_map_more (λ (x : Dropper). x.pass.receipts) before ds d in
    let rest = subst (All (λ (x : Dropper). HoldsReceipts c.args.pile.now x.pass)) steps i.rest in
    record {
      of_pile = search rules;
      first = c.in_ok-receipts.ensures.first
          ∙ ap₂ (λ (p : PassView) (rs : List Receipt). record p { seen = seen; receipts = rs }) i.first receipts;
      items = append_assoc ds (d ∷ []) left ∙ rw (← steps) i.items;
      rest = λ k x lt. rest (suc k) x (omega (arith, lt));
      room = search rules;
      parts = rw (c.push_reserved.ensures.items) (map-append (λ (part : Vec Receipt Global). part.items)
          c.loop-dropper.all.items (c.in_ok-receipts.receipts ∷ []))
          ∙ ap₂ (λ ps (rs : List Receipt). ps ++ rs ∷ []) i.parts c.in_ok-receipts.ensures.receipts
          ∙ sym (map-append (λ (x : Dropper). x.pass.receipts) ds (d ∷ []));
    }
