use Rattle.sand_lab.specs.Reports.{IsReportOf}
use Rattle.sand_lab.proofs.runs.run_all.Given as goal

abbrev pub invariant-loop-epoch : goal.invariant-loop-epoch
invariant-loop-epoch g l = IsReportOf l.album l.fn.wish l.fn.start l.epoch l.report
