use Rattle.sand_commands.proofs.Common.{common_steps, arith, ◌≡◌, sym, subst, err_from_is_err_and, Option, Some, Draw, IsFaultWithoutLab, IsTextWithoutLab, WorkEnds}
use Rattle.std.specs.Result.{IfErr}
use Rattle.sand_cli.specs.declared.task.Task.TheVariants.{Drops}
use Rattle.sand_commands.proofs.Endings.{found_first}
use Rattle.sand_commands.proofs.tasks.do_task_without_lab.Goals as goal

pub returns-in-Drops-Some-default-clause-fault : goal.returns-in-Drops-Some-default-clause-fault
returns-in-Drops-Some-default-clause-fault g c =
    let drawn : c.in-Drops-Some-default.drawn ≡ Some c.in-Drops-Some-default.draw =
    rw c.in-Drops-Some-default.is at c.in-Drops-Some-default.drawn-is in
    let P : Option Draw → Type 0 =
    λ d. IfErr c.drawn_drops.result (WorkEnds (IsTextWithoutLab (Drops d c.in-Drops-Some-default.part) c.args.input.now)
    (IsFaultWithoutLab (Drops d c.in-Drops-Some-default.part) c.args.input.now)
    (g.W.Write.contents c.args.writer.now) (g.W.Write.contents c.drawn_drops.new.writer)) in
    rw c.in-Drops-Some-default.is (subst P (sym drawn) c.drawn_drops.ensures.fault)

pub returns-in_err-text-clause-fault : goal.returns-in_err-text-clause-fault
returns-in_err-text-clause-fault g c = grind (arith, common_steps, err_from_is_err_and, found_first)
