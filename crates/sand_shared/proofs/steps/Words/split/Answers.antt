-- The rule allows the split at any moment (`splits`). The quota and the sites that the play gives away are those of
-- the event that was picked for the call.
use Rattle.sand_shared.proofs.Common.{ℕ, List, ◌-◌, length, arith, sym, ap, ◌∙◌, subst, Me, Splits, View, Terms, Event, parent, child, quota_given, sites_given, IsRunning}
use Rattle.sand_shared.proofs.StepsAreEvents.{splits}
use Rattle.sand_shared.proofs.StepsOnWords.{key_now, has_word, at_table}
use Rattle.sand_shared.proofs.steps.Words.split.Goals as goal

pub split_seat-requires : goal.split_seat-requires
split_seat-requires g c =
    let words = c.self.invariant in
    let is = c.self.view_is in
    let v = c.args.seat.now.me.0 in
    let a = c.args.seat.now.id in
    let n = length v.counts - c.args._kept in (
      at_table words is c.requires.seat,
      has_word words is 0 (omega arith),
      subst (λ (z : Terms × List Event). Splits (IsRunning z.0) a v
          (parent v (quota_given z.1) (sites_given z.1)) (child v (quota_given z.1) (sites_given z.1)))
          (λ i. (sym (key_now words is) i, sym c.requires.picked i))
          (splits _ a c.args._quota n v c.requires.quota (omega arith) c.requires.hand),
    )

pub returns-clause-seat : goal.returns-clause-seat
returns-clause-seat g c = record {
  table = c.split_seat.ensures.0;
  id = c.split_seat.ensures.1;
  bare = ap (λ (m : Me ℕ View). m.1) c.split_seat.ensures.2 ∙ c.requires.seat.bare;
}

pub returns-clause-child_seat : goal.returns-clause-child_seat
returns-clause-child_seat g c = record {
  table = c.split_seat.ensures.3 ∙ c.requires.seat.table;
  bare = ap (λ (m : Me ℕ View). m.1) c.split_seat.ensures.4;
}

pub returns-clause-parent : goal.returns-clause-parent
returns-clause-parent g c =
    let v = c.args.seat.now.me.0 in
    ap (λ (m : Me ℕ View). m.0) c.split_seat.ensures.2
    ∙ ap (λ (es : List Event). parent v (quota_given es) (sites_given es)) c.requires.picked

pub returns-clause-child : goal.returns-clause-child
returns-clause-child g c =
    let v = c.args.seat.now.me.0 in
    ap (λ (m : Me ℕ View). m.0) c.split_seat.ensures.4
    ∙ ap (λ (es : List Event). child v (quota_given es) (sites_given es)) c.requires.picked
