use Rattle.sand_desk.proofs.Common.{common_steps, arith, IfErr-weaker, err_from_is_err_and, on_ok_weaker, found_first}
use Rattle.sand_desk.proofs.WithoutLab.{ends, written}
use Rattle.sand_desk.proofs.commands.do_task.Goals as goal

pub returns-in_default : goal.returns-in_default
returns-in_default g c = record {
  done = on_ok_weaker c.do_task_without_lab.result (written c.args.task c.args.input.now _ _) c.do_task_without_lab.ensures.done;
  fault = IfErr-weaker c.do_task_without_lab.result _ _ (ends c.args.task c.args.input.now _ _) c.do_task_without_lab.ensures.fault;
}

pub returns-in_err-text-clause-fault : goal.returns-in_err-text-clause-fault
returns-in_err-text-clause-fault g c = grind (arith, common_steps, err_from_is_err_and, found_first)
