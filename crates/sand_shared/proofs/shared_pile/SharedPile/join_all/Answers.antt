-- The reversed list is popped from its end, so the passes come in order (`IsJoining`). A pass that is refused is
-- pushed back, and the list reversed again: so the passes not joined come back in order (`stops_at`).
use Rattle.sand_shared.proofs.Common.{◌≡◌, List, [], ◌∷◌, ◌++◌, reverse, Some, sym, ap, ◌∙◌, subst, arith, nil_from_length, All-pop, receipts_for, PassView, IsPassOf, together_all}
use Rattle.std.proofs.lemmas.List.Sorted.{All-permutation}
use Rattle.sand_shared.specs.Joins.{StopsAt}
use Rattle.sand_shared.proofs.JoinedInOrder.{IsJoining, none_joined, one_more_joined, stops_at, all_joined}
use Rattle.sand_shared.proofs.Receipts.{receipts_for-together_all}
use Rattle.sand_shared.proofs.shared_pile.SharedPile.join_all.Goals as goal
use Rattle.sand_shared.proofs.shared_pile.SharedPile.join_all.Goals.{After-join, After-drop-passes}

pub passes-init : goal.passes-init
passes-init c = record {
  of_pile = c.requires.first;
  coming = All-permutation (IsPassOf c.args.self.now) c.args.passes.items c.reverse.new.self.items
      c.reverse.ensures.permutation c.requires.passes;
  joining = subst (IsJoining c.args.first.now c.args.passes.items c.args.first.now) (sym c.reverse.ensures.items)
      (none_joined c.args.first.now c.args.passes.items);
}

pub join-requires-clause-other : goal.join-requires-clause-other
join-requires-clause-other c =
    (All-pop (IsPassOf c.args.self.now) c.passes.passes.items c.pop.new.self.items (Some c.in-Some.pass)
    c.in-Some.ensures.items c.passes.invariant.coming).1

-- the pass that was popped is the next one in order
next : (c : After-join) → IsJoining c.args.first.now c.args.passes.items c.passes.first
    (c.pop.new.self.items ++ c.in-Some.pass ∷ [])
next c = subst (IsJoining c.args.first.now c.args.passes.items c.passes.first) c.in-Some.ensures.items
    c.passes.invariant.joining

pub returns-in-Err-clause-stops : goal.returns-in-Err-clause-stops
returns-in-Err-clause-stops c =
    let pushed = c.push_reserved.ensures.items
    ∙ ap (λ (p : PassView). c.pop.new.self.items ++ p ∷ []) c.in-Err.ensures.back in
    let back = c.reverse-in-Err.ensures.items ∙ ap reverse pushed in
    subst (λ (z : PassView × List PassView). StopsAt c.args.first.now c.args.passes.items c.in-Err.fault z.0 z.1)
    (λ i. (sym c.in-Err.ensures.unchanged i, sym back i))
    (stops_at c.args.first.now c.args.passes.items c.passes.first c.in-Some.pass c.pop.new.self.items
    (next (goal.at.returns-in-Err-clause-stops c).After-join) c.in-Err.fault c.in-Err.ensures.apart)

pub passes-preserved : goal.passes-preserved
passes-preserved c = record {
  of_pile = c.join.ensures.of_pile;
  coming = (All-pop (IsPassOf c.args.self.now) c.passes.passes.items c.pop.new.self.items (Some c.in-Some.pass)
      c.in-Some.ensures.items c.passes.invariant.coming).0;
  joining = subst (λ (q : PassView). IsJoining c.args.first.now c.args.passes.items q c.pop.new.self.items)
      (sym c.in_default-join.ensures.joined)
      (one_more_joined c.args.first.now c.args.passes.items c.passes.first c.in-Some.pass c.pop.new.self.items
      (next (goal.at.passes-preserved c).After-join));
}

joined : (c : After-drop-passes) → c.passes.first ≡ together_all c.args.first.now c.args.passes.items
joined c =
    let none = c.in_default.ensures.cases in
    let long = c.passes.passes.ok.0 in
    all_joined c.args.first.now c.args.passes.items c.passes.first
    (subst (IsJoining c.args.first.now c.args.passes.items c.passes.first)
    (nil_from_length c.passes.passes.items (omega arith)) c.passes.invariant.joining)

pub returns-clause-joined : goal.returns-clause-joined
returns-clause-joined c = joined c

pub returns-clause-by_site : goal.returns-clause-by_site
returns-clause-by_site c i =
    ap (λ (p : PassView). receipts_for p.receipts i) (joined c)
    ∙ receipts_for-together_all c.args.first.now c.args.passes.items i
