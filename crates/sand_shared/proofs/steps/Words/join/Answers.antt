-- The rule allows two passes with empty hands and rows that touch to become one, at any moment (`joins`).
use Rattle.sand_shared.proofs.Common.{arith, sym, subst, Joins, Terms, nobody, joined, IsRunning}
use Rattle.sand_shared.proofs.StepsAreEvents.{joins}
use Rattle.sand_shared.proofs.StepsOnWords.{key_now, has_word, at_table}
use Rattle.sand_shared.proofs.steps.Words.join.Goals as goal

pub join_seat-requires : goal.join_seat-requires
join_seat-requires c =
    let words = c.self.invariant in
    let is = c.self.view_is in
    let a = c.args.seat.now.id in
    let b = c.args.other.id in
    let v = c.args.seat.now.me.0 in
    let w = c.args.other.me.0 in (
      at_table words is c.requires.seat,
      at_table words is c.requires.other,
      c.requires.other.bare,
      has_word words is 0 (omega arith),
      subst (λ (t : Terms). Joins (IsRunning t) a v b w (joined v w) nobody) (sym (key_now words is))
          (joins _ a v b w c.requires.hands.0 c.requires.hands.1 c.requires.rows),
    )
