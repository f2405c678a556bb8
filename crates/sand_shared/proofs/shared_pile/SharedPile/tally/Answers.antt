-- The pass had seen no more drops than are counted now (`counted_fresh`), so the numbers of its receipts are still
-- below what it has seen.
use Rattle.sand_shared.proofs.Common.{ℕ, refl, ap, ◌∙◌, arith, Me, View, shown}
use Rattle.sand_shared.specs.Events.{counted}
use Rattle.sand_shared.proofs.SeatOfPass.{counted_is, counted_fresh, with_receipts, seated}
use Rattle.sand_shared.proofs.shared_pile.SharedPile.tally.Goals as goal

pub invariant_of-bare : goal.invariant_of-bare
invariant_of-bare c =
    let inv = c.bare.invariant in
    let p = c.bare.inside in
    let n = c.count-drops.result in
    let happened = c.count-drops.ensures.happened in
    let fresh = counted_fresh happened in
    let seen = ap (λ (m : Me ℕ View). m.0.seen) inv.me in
    seated (record (shown p) { seen = n }) p.seat.me.0.spot p.seat.me.0.least
    (with_receipts inv.pass inv.pass.once (λ k d l. let b = inv.pass.below k d l in omega arith))
    inv.each_made (counted_is happened ∙ ap (λ (m : Me ℕ View). counted m.0 n) inv.me)
    c.count-drops.ensures.seat.bare refl
