use Rattle.std.proofs.Common.{rules, arith}
use Rattle.sand_lab.proofs.OneTurnMore.{enough_after}
use Rattle.sand_lab.proofs.workers.WorkerTakeTurns.take_turns.Goals as goal

pub loop-turn-preserved : goal.loop-turn-preserved
loop-turn-preserved g c =
    let i = c.loop-turn.invariant in
    let swept = c.sweep-self.ensures.swept.rows in
    record {
      begun = λ e. absurd (omega (arith, e));
      who = search rules;
      can = record { of_pile = search rules; swept = omega (arith, i.can.swept, swept.risen) };
      kept = search rules;
      same_rows = omega (arith, swept.same_rows, i.same_rows);
      never_fall = λ j. omega (arith, i.never_fall j, swept.never_fall j);
      enough = λ some. enough_after c.args.pile.now.terms c.args.self.now.pass c.loop-turn.self.pass
          c.sweep-self.new.pass.counts c.sweep-self.result c.loop-turn.turn i.begun i.enough swept;
    }
