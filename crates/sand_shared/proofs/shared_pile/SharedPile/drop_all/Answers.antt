-- Drawn and laid, the drops leave the seat with what the pass has after them (`bare_dropped`). The first number is at
-- least what the pass had seen (`fresh`), and the last is below the quota (`row_small`), so no number overflows.
use Rattle.sand_shared.proofs.Common.{◌≡◌, List, ◌++◌, length, sym, refl, ap, ◌∙◌, arith, rules, length-append, Receipt, View, receipts_for, receipts_from, PassView}
use Rattle.sand_shared.proofs.EventsInARow.{row_small}
use Rattle.sand_shared.proofs.Receipts.{receipts_for-append, receipts_from-length, receipts_by_site}
use Rattle.sand_shared.proofs.SeatOfPass.{drawn, fresh, has_dropped, bare_dropped}
use Rattle.sand_shared.proofs.shared_pile.SharedPile.drop_all.Goals as goal
use Rattle.sand_shared.proofs.shared_pile.SharedPile.drop_all.Goals.{After-place_all}

-- the receipts that the seat then has
received : (c : After-place_all) → c.place_all.new.seat.me.0.receipts
    ≡ c.bare.inside.seat.me.0.receipts ++ receipts_from c.draw-number.result c.args.drops.now
received c = ap (λ (v : View). v.receipts) (has_dropped c.bare.invariant c.args.drops.now (omega arith)
    c.draw-number.ensures.happened c.place_all.ensures.view)

pub place_all-requires-clause-hand : goal.place_all-requires-clause-hand
place_all-requires-clause-hand c = ap (λ (v : View). v.hand)
    (drawn c.bare.invariant c.args.drops.now (omega arith) c.draw-number.ensures.happened)

pub invariant_of-bare : goal.invariant_of-bare
invariant_of-bare c = bare_dropped c.bare.invariant c.args.drops.now (omega arith) c.draw-number.ensures.happened
    (omega arith) c.place_all.ensures.view c.place_all.ensures.seat.bare refl

pub overflow_add-bare : goal.overflow_add-bare
overflow_add-bare c =
    let few = row_small _ _ c.args.drops.now _ _ _ (omega arith) c.draw-number.ensures.happened in omega arith

pub note-requires-clause-fits : goal.note-requires-clause-fits
note-requires-clause-fits c =
    let few = row_small _ _ c.args.drops.now _ _ _ (omega arith) c.draw-number.ensures.happened in omega arith

pub invariant_of-pass-2 : goal.invariant_of-pass-2
invariant_of-pass-2 c =
    let ds = c.args.drops.now in
    let n = c.draw-number.result in
    let inv = c.pass.invariant in
    let items = c.note.ensures.items in
    let before = inv.listed ∙ sym (ap (λ (p : PassView). p.receipts) c.bare.view_is) in
    record {
      listed = items ∙ ap (λ (l : List Receipt). l ++ receipts_from n ds) before
          ∙ sym (received (goal.at.invariant_of-pass-2 c).After-place_all);
      fit = (let long = ap (λ (l : List Receipt). length l) items in
          let more = length-append c.pass.inside.receipts.items (receipts_from n ds) in
          let same = receipts_from-length n ds in
          let left = ap (λ (p : PassView). p.left) c.bare.view_is in omega (arith, c.note.ensures.room));
    }

pub returns-clause-after_all_seen : goal.returns-clause-after_all_seen
returns-clause-after_all_seen c =
    let new = fresh c.bare.invariant c.args.drops.now (omega arith) c.draw-number.ensures.happened in
    let same = ap (λ (v : PassView). v.seen) (c.bare.view_is ∙ c.pass.view_is) in omega arith

pub returns-clause-in_the_quota : goal.returns-clause-in_the_quota
returns-clause-in_the_quota c some_drops =
    let few = row_small _ _ c.args.drops.now _ _ _ some_drops c.draw-number.ensures.happened in
    let same = ap (λ w. w.terms.quota) c.self.view_is in omega arith

pub returns-clause-pass : goal.returns-clause-pass
returns-clause-pass c = let receipts = received (goal.at.returns-clause-pass c).After-place_all in search rules

pub returns-clause-by_site : goal.returns-clause-by_site
returns-clause-by_site c i =
    let ds = c.args.drops.now in
    let n = c.draw-number.result in
    let new = received (goal.at.returns-clause-by_site c).After-place_all in
    let drawn = ap (λ (rs : List Receipt). receipts_for rs i) new in
    let more = receipts_for-append c.bare.inside.seat.me.0.receipts (receipts_from n ds) i in
    let same = receipts_by_site n ds i in
    let before = ap (λ (p : PassView). receipts_for p.receipts i) (c.bare.view_is ∙ c.pass.view_is) in omega arith
