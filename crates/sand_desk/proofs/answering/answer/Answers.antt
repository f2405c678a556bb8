use Rattle.sand_desk.proofs.Common.{map, string_bytes, IfErr-weaker, on_ok_weaker, inl, Some, None, [], keeps}
use Rattle.sand_commands.specs.Version.{version_text}
use Rattle.sand_desk.proofs.OwnTexts.{unshown_tells}
use Rattle.sand_desk.proofs.answering.answer.Goals as goal

pub returns-in-Version : goal.returns-in-Version
returns-in-Version g c =
    let kept = keeps (g.R.Read.remaining c.args.input.now) in
    record {
      done = rw c.in-Version.is
          (on_ok_weaker c.write_version.result (λ shown. (kept, shown)) c.write_version.ensures.shown);
      fault = rw c.in-Version.is
          (IfErr-weaker c.write_version.result _ _ (λ fault part. (kept, part)) c.write_version.ensures.fault);
      told = IfErr-weaker c.write_version.result _ _
          (λ fault part. (unshown_tells (map string_bytes c.args.asked.words.now) (Some version_text) _ _ fault (inl part)).0)
          c.write_version.ensures.fault;
      status = IfErr-weaker c.write_version.result _ _
          (λ fault part. (unshown_tells [] (Some version_text) _ _ fault (inl part)).1) c.write_version.ensures.fault;
    }

pub returns-in-Explain : goal.returns-in-Explain
returns-in-Explain g c =
    let kept = keeps (g.R.Read.remaining c.args.input.now) in
    record {
      done = rw c.in-Explain.is
          (on_ok_weaker c.write_explained.result (λ shown. (kept, shown)) c.write_explained.ensures.shown);
      fault = rw c.in-Explain.is
          (IfErr-weaker c.write_explained.result _ _ (λ fault ends. (kept, ends)) c.write_explained.ensures.fault);
      told = IfErr-weaker c.write_explained.result _ _
          (λ fault ends. (unshown_tells (map string_bytes c.args.asked.words.now) None _ _ fault ends).0)
          c.write_explained.ensures.fault;
      status = IfErr-weaker c.write_explained.result _ _
          (λ fault ends. (unshown_tells [] None _ _ fault ends).1) c.write_explained.ensures.fault;
    }

pub returns-in-ExplainHelp : goal.returns-in-ExplainHelp
returns-in-ExplainHelp g c =
    let kept = keeps (g.R.Read.remaining c.args.input.now) in
    record {
      done = rw c.in-ExplainHelp.is
          (on_ok_weaker c.write_explain_help.result (λ shown. (kept, shown)) c.write_explain_help.ensures.shown);
      fault = rw c.in-ExplainHelp.is
          (IfErr-weaker c.write_explain_help.result _ _ (λ fault ends. (kept, ends)) c.write_explain_help.ensures.fault);
      told = IfErr-weaker c.write_explain_help.result _ _
          (λ fault ends. (unshown_tells (map string_bytes c.args.asked.words.now) None _ _ fault ends).0)
          c.write_explain_help.ensures.fault;
      status = IfErr-weaker c.write_explain_help.result _ _
          (λ fault ends. (unshown_tells [] None _ _ fault ends).1) c.write_explain_help.ensures.fault;
    }
