-- The seats have what passes with the upper and with the lower rows have (`upper_has`, `lower_has`), because a row is
-- as many sites as the grid is wide (`kept_is`).
use Rattle.sand_shared.proofs.Common.{◌≡◌, ◌-◌, ◌*◌, ◌≤◌, take, drop, length, sym, refl, ap, ◌∙◌, arith, rules, shown, parent, child, sites_kept, count_of}
use Rattle.sand_shared.proofs.PassesSplit.{upper, lower, upper_pass, lower_pass, upper_has, lower_has}
use Rattle.sand_shared.proofs.SeatOfPass.{seated}
use Rattle.sand_shared.proofs.shared_pile.SharedPile.split_rows.Goals as goal
use Rattle.sand_shared.proofs.shared_pile.SharedPile.split_rows.Goals.{After-split-seat}

-- the sites kept, as the code computes them
kept_is : (c : After-split-seat)
    → c.len.result - c.from.result * c.width.result ≡ sites_kept (shown c.bare.inside) c.args.k
kept_is c =
    let given : c.from.result * c.width.result ≡ c.args.k * c.bare.inside.shape.width =
    λ i. c.from.ensures i * c.width.ensures.value i in
    omega arith

few_rows : (c : After-split-seat) → c.args.k ≤ count_of c.bare.inside.rows
few_rows c = omega arith

pub invariant_of-bare : goal.invariant_of-bare
invariant_of-bare c =
    let here = (goal.at.invariant_of-bare c).After-split-seat in
    let x = c.bare.inside in
    let k = c.args.k in
    let kept = kept_is here in
    let counts : c.truncate.new.self.items ≡ (upper x k).counts =
    c.truncate.ensures.items ∙ ap (λ n. take n x.counts.items) kept in
    seated (upper x k) x.seat.me.0.spot 0 (upper_pass x k c.bare.invariant (few_rows here)) c.bare.invariant.each_made
    (c.split-seat.ensures.parent ∙ ap (λ n. parent x.seat.me.0 0 (length x.seat.me.0.counts - n)) kept
    ∙ upper_has x k c.bare.invariant (few_rows here))
    c.split-seat.ensures.seat.bare
    (λ i. record (upper x k) {
      table = c.split-seat.new.seat.table_id;
      receipts = c.split-seat.new.seat.me.0.receipts;
      rows = c.cut.ensures.upper i;
      counts = counts i;
    })

pub invariant_of-child : goal.invariant_of-child
invariant_of-child c =
    let here = (goal.at.invariant_of-child c).After-split-seat in
    let x = c.bare.inside in
    let k = c.args.k in
    let kept = kept_is here in
    let given : drop (c.len.result - c.from.result * c.width.result) x.counts.items ≡ c.in_ok-counts.counts.items =
    search rules in
    let counts : c.in_ok-counts.counts.items ≡ (lower x k).counts = sym given ∙ ap (λ n. drop n x.counts.items) kept in
    seated (lower x k) 0 0 (lower_pass x k c.bare.invariant (few_rows here)) refl
    (c.split-seat.ensures.child ∙ ap (λ n. child x.seat.me.0 0 (length x.seat.me.0.counts - n)) kept
    ∙ lower_has x k c.bare.invariant (few_rows here))
    c.split-seat.ensures.child_seat.bare
    (λ i. record (lower x k) {
      table = c.split-seat.result.table_id;
      receipts = c.split-seat.result.me.0.receipts;
      rows = c.cut.ensures.lower i;
      counts = counts i;
    })
