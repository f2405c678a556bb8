use Rattle.sand_commands.proofs.Common.{◌∙◌, ap, err_from_is_err_and, IfOk-weaker, sites, PileView}
use Rattle.sand_commands.proofs.Unfit.{pile_refused}
use Rattle.sand_commands.proofs.pile_commands.multiple_output.Goals as goal

pub returns-in_err-recurrent-clause-fault : goal.returns-in_err-recurrent-clause-fault
returns-in_err-recurrent-clause-fault c =
    let p = err_from_is_err_and c.from_residual-in_err-recurrent.result c.from_residual-in_err-recurrent.ensures.1 in
    rw (p.1, p.2)
    (pile_refused c.args.input.now c.in_ok-pile.pile c.from_pile.result c.in_err-recurrent.field-0.0 c.in_ok-pile.ensures
    (record {
      is = c.in_err-recurrent.was;
      unstable = c.from_pile.ensures.unstable;
      not_recurrent = c.from_pile.ensures.not_recurrent;
      others = c.in_err-recurrent.ensures.faults;
    }))

pub returns-clause-text : goal.returns-clause-text
returns-clause-text c =
    let made = c.in_ok-recurrent.ensures.made in
    IfOk-weaker c.pile_or_graymap.result _ _
    (λ text written. record {
      pile = c.in_ok-pile.pile;
      read = c.in_ok-pile.ensures;
      recurrent = c.in_ok-recurrent.ensures.recurrent;
      answer = record {
        pile = c.in_ok-sum.sum;
        grid = c.in_ok-sum.ensures.grid ∙ ap (λ (p : PileView). p.grid) made;
        len = c.in_ok-sum.ensures.len ∙ ap (λ (p : PileView). sites p.grid) made;
        wanted = rw made at c.in_ok-sum.ensures.multiple;
        written = rw c.pile-2.ensures.value at written;
      };
    })
    c.pile_or_graymap.ensures.text
