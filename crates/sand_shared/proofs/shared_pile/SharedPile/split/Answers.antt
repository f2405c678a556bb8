-- No site is given away, so the seat has what the pass with less quota has (`rows_kept`).
use Rattle.sand_shared.proofs.Common.{◌≡◌, ◌-◌, length, refl, ap, ◌∙◌, arith, shown, parent}
use Rattle.sand_shared.proofs.PassesSplit.{rows_kept}
use Rattle.sand_shared.proofs.SeatOfPass.{with_receipts, seated}
use Rattle.sand_shared.proofs.shared_pile.SharedPile.split.Goals as goal

pub invariant_of-bare : goal.invariant_of-bare
invariant_of-bare c =
    let inv = c.bare.invariant in
    let x = c.bare.inside in
    let quota = c.args.quota in
    let kept : c.len-kept.result ≡ length x.counts.items = omega arith in
    seated (record (shown x) { left = x.left - quota }) x.seat.me.0.spot 0
    (with_receipts inv.pass inv.pass.once inv.pass.below) inv.each_made
    (c.split-seat.ensures.parent
    ∙ ap (λ n. parent x.seat.me.0 quota (length x.seat.me.0.counts - n)) kept ∙ rows_kept x inv quota)
    c.split-seat.ensures.seat.bare refl
