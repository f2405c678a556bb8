use Rattle.sand_lab.proofs.Common.{ℕ, ◌*◌, sum, sym, ap, ap₂, subst, arith, most_grains_on, PileView, quota_of, IsReportOf}
use Rattle.std.proofs.lemmas.Result.{IfOk-weaker}
use Rattle.sand_lab.proofs.OneEpochMore.{report_first, closed_drops, first_and_later}
use Rattle.sand_lab.proofs.runs.first_report.Goals as goal

pub copy_to_grow-requires : goal.copy_to_grow-requires
copy_to_grow-requires g c =
    let epoch = c.in_ok-first.ensures.closed.closed in
    let drops = closed_drops c.args.wish c.args.start.now 0 c.in_ok-first.first.closed _ _ _ epoch in
    let grains = ap (λ (x : PileView). sum x.heights) epoch.from_start in
    let limit = ap (λ (x : PileView). most_grains_on x.grid) epoch.from_start in
    let later = ap₂ (λ (m n : ℕ). m * n) c.quota_of.ensures c.from.ensures in
    let all = first_and_later c.args.wish.epochs (quota_of c.args.wish) c.requires.plan.some_epochs in
    omega (arith, drops, grains, limit, later, all, c.requires.limit)

pub returns-clause-report : goal.returns-clause-report
returns-clause-report g c =
    let album = c.args.album.now in
    let w = c.args.wish in
    let start = c.args.start.now in
    let epoch = c.in_ok-closed.ensures.epoch w start c.in_ok-first.ensures.closed in
    let first = report_first album w start c.in_ok-closed.closed c.in_ok-closed.sheet epoch in
    IfOk-weaker c.of.result _ _ (λ p is. subst (IsReportOf album w start 1) (sym is) first) c.of.ensures.report
