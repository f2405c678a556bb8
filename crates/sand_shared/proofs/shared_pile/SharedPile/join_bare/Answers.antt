-- The joined seat has what both passes together have, rows in order (`joined_view`). Only the load after the join
-- tells that no two receipts of them have the same number: it shows the seat on a lawful pile (`joined_pass`).
use Rattle.sand_shared.proofs.Common.{◌≡◌, ◌++◌, Bool, sym, ap, ◌∙◌, arith, rules, length-append, if◌then◌else◌, shown, PassView, together}
use Rattle.sand_shared.proofs.PassesJoined.{joined_view, joined_pass, seats_touch}
use Rattle.sand_shared.proofs.SeatOfPass.{seated}
use Rattle.sand_shared.proofs.shared_pile.SharedPile.join_bare.Goals as goal
use Rattle.sand_shared.proofs.shared_pile.SharedPile.join_bare.Goals.{After-touch}

one_grid : (c : After-touch) → c.other.inside.shape ≡ c.pass.inside.shape
one_grid c =
    let grid = λ (v : PassView). v.grid in
    ap grid c.other.view_is ∙ c.requires.other.grid ∙ sym c.requires.pass.grid ∙ sym (ap grid c.pass.view_is)

pub join-requires-clause-rows : goal.join-requires-clause-rows
join-requires-clause-rows c =
    seats_touch c.pass.inside c.other.inside c.pass.invariant c.other.invariant
    (one_grid (goal.at.join-requires-clause-rows c).After-touch) (sym c.touch.ensures ∙ c.if-not-touch.false)

pub invariant_of-pass-2 : goal.invariant_of-pass-2
invariant_of-pass-2 c =
    let inv = c.pass.invariant in
    let inv' = c.other.invariant in
    let p = c.pass.inside in
    let o = c.other.inside in
    let both = together (shown p) (shown o) in
    let same = one_grid (goal.at.invariant_of-pass-2 c).After-touch in
    let touch = sym c.touch.ensures ∙ c.if-not-touch.false in
    let laid : c.lay_together.new.first.items ≡ (if c.are_followed_by-in_order.result
    then p.counts.items ++ o.counts.items
    else o.counts.items ++ p.counts.items) =
    search rules in
    let counts : c.lay_together.new.first.items ≡ both.counts =
    laid ∙ ap (λ (b : Bool). if b then p.counts.items ++ o.counts.items else o.counts.items ++ p.counts.items)
    c.are_followed_by-in_order.ensures in
    let made = c.learn.ensures.view ∙ c.join.ensures.joined in
    let long = length-append (shown p).receipts (shown o).receipts in
    seated both 0 0 (joined_pass p o inv inv' same touch _ _ c.learn.new.seat.me.0 made c.learn.ensures.stands)
    (omega arith) (made ∙ joined_view p o inv inv' same) c.learn.ensures.seat.bare
    (λ i. record both {
      table = c.learn.new.seat.table_id;
      receipts = c.learn.new.seat.me.0.receipts;
      seen = c.max-pass-inside.ensures i;
      rows = c.together-pass-inside.ensures i;
      counts = counts i;
    })
