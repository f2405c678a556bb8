use Rattle.std.proofs.Common.{arith, rules}
use Rattle.sand_text.proofs.Chunks.{further, done}
use Rattle.sand_text.proofs.pictures.push_lines.Goals as goal

pub loop-line-preserved : goal.loop-line-preserved
loop-line-preserved c = further _ 35 _ _ c.in-Some.line _ _ _ (omega arith)
    c.in-Some.ensures.steps c.in_ok-push_row.ensures.written c.loop-line.invariant

pub returns : goal.returns
returns c = done _ 35 _ _ _ _ c.in-None.ensures.steps c.loop-line.invariant

pub loop-line-init : goal.loop-line-init
loop-line-init c = search rules
