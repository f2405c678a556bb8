use Rattle.sand_commands.proofs.Common.{sym, ◌∙◌, ap, inl, inr, err_from_is_err_and, IfOk-weaker, Grid, sites, PileView}
use Rattle.sand_group.proofs.WhyRefused.{refusal}
use Rattle.sand_commands.proofs.Unfit.{pair_refused}
use Rattle.sand_commands.proofs.pile_commands.sum_output.Goals as goal

abbrev grid : PileView → Grid
grid p = p.grid

pub returns-in_err-first-2-clause-fault : goal.returns-in_err-first-2-clause-fault
returns-in_err-first-2-clause-fault c =
    let p = err_from_is_err_and c.from_residual-in_err-first-2.result c.from_residual-in_err-first-2.ensures.1 in
    rw (p.1, p.2) (pair_refused c.args.input.now c.in_err-first-2.field-0.0 (record {
      first = c.in_ok-first.first;
      second = c.in_ok-first.second;
      read = c.in_ok-first.ensures;
      unfit = inl (refusal c.in_ok-first.first c.from_pile.result c.in_err-first-2.field-0.0 (record {
        is = c.in_err-first-2.was;
        unstable = c.from_pile.ensures.unstable;
        not_recurrent = c.from_pile.ensures.not_recurrent;
        others = c.in_err-first-2.ensures.faults;
      }));
    }))

pub returns-in_err-second-clause-fault : goal.returns-in_err-second-clause-fault
returns-in_err-second-clause-fault c =
    let p = err_from_is_err_and c.from_residual-in_err-second.result c.from_residual-in_err-second.ensures.1 in
    rw (p.1, p.2) (pair_refused c.args.input.now c.in_err-second.field-0.0 (record {
      first = c.in_ok-first.first;
      second = c.in_ok-first.second;
      read = c.in_ok-first.ensures;
      unfit = inr (
        c.in_ok-first-2.ensures.recurrent,
        refusal c.in_ok-first.second c.from_pile-2.result c.in_err-second.field-0.0 (record {
          is = c.in_err-second.was;
          unstable = c.from_pile-2.ensures.unstable;
          not_recurrent = c.from_pile-2.ensures.not_recurrent;
          others = c.in_err-second.ensures.faults;
        }),
      );
    }))

pub returns-clause-text : goal.returns-clause-text
returns-clause-text c =
    IfOk-weaker c.pile_or_graymap.result _ _
    (λ text written. record {
      first = c.in_ok-first.first;
      second = c.in_ok-first.second;
      read = c.in_ok-first.ensures;
      first_recurrent = c.in_ok-first-2.ensures.recurrent;
      second_recurrent = c.in_ok-second.ensures.recurrent;
      one_shape = ap grid (sym c.in_ok-first-2.ensures.made)
          ∙ (c.in_ok-sum.ensures.one_shape ∙ ap grid c.in_ok-second.ensures.made);
      answer = record {
        pile = c.in_ok-sum.sum;
        grid = c.in_ok-sum.ensures.settled.grid ∙ ap grid c.in_ok-first-2.ensures.made;
        len =
            c.in_ok-sum.ensures.settled.len ∙ ap (λ (p : PileView). sites p.grid) c.in_ok-first-2.ensures.made;
        wanted = rw (c.in_ok-first-2.ensures.made, c.in_ok-second.ensures.made) at c.in_ok-sum.ensures.sum;
        written = rw c.pile.ensures.value at written;
      };
    })
    c.pile_or_graymap.ensures.text
