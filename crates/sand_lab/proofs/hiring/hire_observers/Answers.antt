use Rattle.sand_lab.proofs.Common.{rules, ◌≡◌, ℕ, [], length, ap, sym, subst, ◌∙◌, PassView, no_rows, Observer, EachAt, IsObserver}
use Rattle.sand_lab.proofs.EachAtItsPlace.{each_push}
use Rattle.sand_lab.proofs.hiring.hire_observers.Goals as goal

pub loop-who-preserved : goal.loop-who-preserved
loop-who-preserved c =
    let s = c.args.pile.now in
    let i = c.loop-who.invariant in
    let P : ℕ → Observer → Type 0 = IsObserver s in
    let observer : Observer =
    record { who = c.loop-who.who; tallies = c.in_ok-tallies.tallies; pass = c.in-Ok.pass } in
    let one : P c.loop-who.who observer = record {
      who = search rules;
      tallies = search rules;
      room = search rules;
      pass = c.in-Ok.ensures.child
          ∙ ap (λ (p : PassView). record p { left = 0; receipts = []; rows = no_rows; counts = [] }) i.first;
    } in
    let place : c.loop-who.who ≡ length c.loop-who.hired.items = search rules in
    record {
      hired = subst (EachAt P) (sym c.push_reserved.ensures.items)
          (each_push P c.loop-who.hired.items observer i.hired (subst (λ (n : ℕ). P n observer) place one));
      len = search rules;
      room = search rules;
      first = search rules;
    }
