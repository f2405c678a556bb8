-- A drop is a list of one: the grain drawn is the only one in hand, and once it is laid the hand is empty
-- (`last_laid`).
use Rattle.sand_shared.proofs.Common.{◌≤◌, List, [], ◌∷◌, sym, refl, ap, ◌∙◌, subst, arith, count_by, View, Grains, grains_for, are_for}
use Rattle.sand_shared.proofs.HandAfterPlacing.{laid_on, last_laid, first_counts}
use Rattle.sand_shared.proofs.EventsInARow.{laid_is}
use Rattle.sand_shared.proofs.SeatOfPass.{drawn, bare_dropped}
use Rattle.sand_shared.proofs.shared_pile.SharedPile.drop_at.Goals as goal

pub place-requires-clause-hand : goal.place-requires-clause-hand
place-requires-clause-hand c =
    let i = c.args.site in
    let drew = c.draw-number.ensures.happened in
    let hand = ap (λ (v : View). v.hand) (drawn c.bare.invariant (i ∷ []) (omega arith) drew) in
    subst (λ (l : List Grains). 1 ≤ count_by (are_for i 1) l) (sym hand) (first_counts i 1 (grains_for i 1 ∷ []) refl)

pub invariant_of-bare : goal.invariant_of-bare
invariant_of-bare c =
    let i = c.args.site in
    let drew = c.draw-number.ensures.happened in
    let had = drawn c.bare.invariant (i ∷ []) (omega arith) drew in
    let hand = ap (λ (v : View). laid_on i 1 v.hand) had ∙ last_laid i in
    bare_dropped c.bare.invariant (i ∷ []) (omega arith) drew (omega arith)
    (laid_is _ _ i 1 _ _ _ c.place.ensures.happened.1 ∙ (λ k. record c.draw-number.new.seat.me.0 { hand = hand k }))
    c.place.ensures.seat.bare refl
