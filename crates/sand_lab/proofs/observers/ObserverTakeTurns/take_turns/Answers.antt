use Rattle.sand_lab.proofs.Common.{rules, ap, ◌≤◌, ℕ, All-push, PassView}
use Rattle.sand_lab.proofs.OneTurnMore.{climbs_push}
use Rattle.sand_lab.proofs.observers.ObserverTakeTurns.take_turns.Goals as goal

pub loop-turn-preserved : goal.loop-turn-preserved
loop-turn-preserved g c =
    let i = c.loop-turn.invariant in
    let tally = c.tally-tally.ensures in
    record {
      who = search rules;
      of_pile = search rules;
      kept = search rules;
      room = search rules;
      as_many = search rules;
      climbs = rw (c.push_reserved.ensures.items, ap (λ (p : PassView). p.seen) tally.pass)
          (climbs_push _ _ _ _ i.climbs tally.at_least_seen);
      within = rw c.push_reserved.ensures.items
          (All-push (λ (n : ℕ). n ≤ c.args.pile.now.terms.quota) _ _ i.within tally.in_the_quota);
    }
