use Rattle.sand_desk.proofs.Common.{◌≡◌, ◌∙◌, map, rules, string_bytes, sym, IfErr-weaker, status_of}
use Rattle.sand_desk.proofs.Helped.{unhelped}
use Rattle.sand_desk.proofs.answering.run_or_help.Goals as goal

pub returns : goal.returns
returns g c =
    let is_help : status_of c.in-Err.fault ≡ 0 = sym c.status.ensures ∙ c.if-status-ne0.false in
    record {
      done = search rules;
      fault = IfErr-weaker c.show_help.result _ _
          (λ ending unshown. unhelped (map string_bytes c.args.words.now)
          (g.R.Read.remaining c.args.reader.now) (g.R.Read.remaining c.run_gated_command.new.reader)
          (g.W.Write.contents c.args.writer.now) (g.W.Write.contents c.run_gated_command.new.writer)
          (g.W.Write.contents c.show_help.new.writer) c.in-Err.fault ending c.in-Err.ensures.told c.in-Err.ensures.help
          c.in-Err.ensures.fault is_help unshown)
          c.show_help.ensures.fault;
      told = search rules;
      status = search rules;
    }
