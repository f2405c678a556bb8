use Rattle.std.proofs.Common.{ℕ, ◌<◌}
use Rattle.std.proofs.lemmas.Result.{IfOk-weaker}
use Rattle.sand_lab.specs.Reports.{ReportView, IsReport, sheet_at}
use Rattle.sand_lab.proofs.SheetLengths.{IsSheet, sheets}
use Rattle.sand_testing.proofs.runs.run_into.Goals.{In_ok-plan}
use Rattle.sand_testing.proofs.runs.run_into.Goals as goal

sheet : (g : _) (c : In_ok-plan g) (p : ReportView) → IsReport c.args.album.now c.in_ok-plan.plan c.args.start.now p
    → (t : ℕ) → t < c.args.wish.epochs → IsSheet c.args.album.now c.args.wish t (sheet_at p t)
sheet g c = sheets c.args.album.now c.in_ok-plan.plan c.args.wish c.in_ok-plan.ensures.plan c.args.start.now

pub returns-clause-tallies : goal.returns-clause-tallies
returns-clause-tallies g c =
    let at = (goal.at.returns-clause-tallies g c).In_ok-plan in
    IfOk-weaker c.run.result _ _ (λ p report t l. (sheet g at p report t l).tallies) c.run.ensures.report

pub returns-clause-swept : goal.returns-clause-swept
returns-clause-swept g c =
    let at = (goal.at.returns-clause-swept g c).In_ok-plan in
    IfOk-weaker c.run.result _ _ (λ p report t l. (sheet g at p report t l).swept) c.run.ensures.report

pub returns-clause-places : goal.returns-clause-places
returns-clause-places g c =
    let at = (goal.at.returns-clause-places g c).In_ok-plan in
    IfOk-weaker c.run.result _ _ (λ p report t l. (sheet g at p report t l).place) c.run.ensures.report
