use Rattle.sand_desk.proofs.Common.{common_steps, arith, map, string_bytes, IfErr-weaker, err_from_is_err_and, rules, Call, IsRead, call_of, keeps}
use Rattle.sand_desk.proofs.Endings.{reading_ends, work_ends, work_no_help}
use Rattle.sand_desk.proofs.commands.run_gated_command.Goals as goal

pub returns-in_err-input : goal.returns-in_err-input
returns-in_err-input g c =
    let p = err_from_is_err_and c.from_residual-in_err-input.result c.from_residual-in_err-input.ensures.1 in
    let held = g.W.Write.contents c.args.writer.now in
    record {
      done = search rules;
      fault = rw (p.1, p.2)
          (reading_ends (call_of (map string_bytes c.args.words.now)
          (g.R.Read.remaining c.args.reader.now) (g.R.Read.remaining c.take_input.new.reader) held held)
          c.in_ok-task.task _ c.in_ok-task.ensures.ok c.in_err-input.ensures.reads c.in_err-input.ensures.fault
          (λ e. c.in_err-input.ensures.too_long cc) c.in_err-input.ensures.failed (keeps held));
      help = search rules;
      told = search rules;
    }

pub returns : goal.returns
returns g c =
    let call : Call = call_of (map string_bytes c.args.words.now)
    (g.R.Read.remaining c.args.reader.now) (g.R.Read.remaining c.take_input.new.reader)
    (g.W.Write.contents c.args.writer.now) (g.W.Write.contents c.do_task.new.writer) in
    let read : IsRead call c.in_ok-task.task c.in_ok-input.input.items = record {
      is_asked = c.in_ok-task.ensures.ok;
      all = c.in_ok-input.ensures.taken;
      within = c.in_ok-input.ensures.within;
    } in
    let ends = rw c.as_slice.ensures.value at c.do_task.ensures.fault in
    record {
      done = search rules;
      fault = IfErr-weaker c.do_task.result _ _
          (λ fault failed. work_ends call c.in_ok-task.task c.in_ok-input.input.items fault read failed) ends;
      help = grind (arith, common_steps, IfErr-weaker, work_no_help);
      told = grind (arith, common_steps, IfErr-weaker, work_no_help);
    }
