use Rattle.sand_lab.proofs.Common.{rules, arith, ◌≡◌, ℕ, suc, List, Vec, Global, [], ◌∷◌, ◌++◌, All, ap₂, subst, sym, ◌∙◌, append_assoc, append-nil, map-append, into_iter_items, Receipt, PassView, Observer, HoldsNothing}
use Rattle.sand_lab.proofs.gathering.gather_observers.Goals as goal

pub loop-observer-preserved : goal.loop-observer-preserved
loop-observer-preserved c =
    let i = c.loop-observer.invariant in
    let os = c.loop-observer.yielded in
    let o = c.in-Some.observer in
    let left = into_iter_items c.next.new.self in
    let steps : into_iter_items c.loop-observer.observer-iterator ≡ o ∷ left = c.in-Some.ensures.steps.0 in
    let seen = c.take_in_receipts.new.first.seen in
    let before : List Receipt = c.args.first.now.receipts in
    let rest = subst (All (λ (x : Observer). HoldsNothing c.args.pile.now x.pass)) steps i.rest in
    let receipts : c.loop-observer.first.receipts ++ o.pass.receipts ≡ before =
    ap₂ (λ (p : PassView) (q : PassView). p.receipts ++ q.receipts) i.first (rest 0 o (omega arith))
    ∙ append-nil before in
    record {
      of_pile = search rules;
      first = c.in_ok-_none.ensures.first
          ∙ ap₂ (λ (p : PassView) (rs : List Receipt). record p { seen = seen; receipts = rs }) i.first receipts;
      items = append_assoc os (o ∷ []) left ∙ rw (← steps) i.items;
      rest = λ k x l. rest (suc k) x (omega (arith, l));
      room = search rules;
      read = rw (
        c.push_reserved.ensures.items,
        map-append (λ (ts : Vec ℕ Global). ts.items) c.loop-observer.all.items (o.tallies ∷ []),
        i.read,
      )
          (sym (map-append (λ (x : Observer). x.tallies.items) os (o ∷ [])));
    }
