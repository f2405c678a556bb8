use Rattle.sand_commands.proofs.Common.{err_from_is_err_and}
use Rattle.sand_commands.proofs.Unfit.{pile_refused}
use Rattle.sand_commands.proofs.pile_commands.inverse_output.Goals as goal

pub returns-in_err-recurrent-clause-fault : goal.returns-in_err-recurrent-clause-fault
returns-in_err-recurrent-clause-fault c =
    let p = err_from_is_err_and c.from_residual-in_err-recurrent.result c.from_residual-in_err-recurrent.ensures.1 in
    rw (p.1, p.2)
    (pile_refused c.args.input.now c.in_ok-pile.pile c.from_pile.result c.in_err-recurrent.field-0.0 c.in_ok-pile.ensures
    (record {
      is = c.in_err-recurrent.was;
      unstable = c.from_pile.ensures.unstable;
      not_recurrent = c.from_pile.ensures.not_recurrent;
      others = c.in_err-recurrent.ensures.faults;
    }))
