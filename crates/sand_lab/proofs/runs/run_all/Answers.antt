use Rattle.sand_lab.proofs.Common.{◌≡◌, sum, ap, ◌∙◌, subst, arith, most_grains_on, PileView, RecordView, IsEpoch, IsReportOf}
use Rattle.sand_lab.proofs.OneEpochMore.{report_more, epoch_drops, room_for_epoch}
use Rattle.sand_lab.proofs.runs.run_all.Goals as goal

pub closed_epoch-requires-clause-limit : goal.closed_epoch-requires-clause-limit
closed_epoch-requires-clause-limit g c κs within =
    let room = room_for_epoch c.args.album.now c.args.wish c.args.start.now c.loop-epoch.epoch c.loop-epoch.report
    c.loop-epoch.invariant c.loop-epoch-test.true c.requires.limit in
    let same = c.pile-pile.ensures.value ∙ ap (λ (r : RecordView). r.settled.pile) c.total.ensures in
    omega (
      arith,
      room.1,
      ap (λ (x : PileView). sum x.heights) same,
      ap (λ (x : PileView). most_grains_on x.grid) same,
    )

pub add-requires-clause-limit : goal.add-requires-clause-limit
add-requires-clause-limit g c =
    let w = c.args.wish in
    let album = c.args.album.now in
    let t = c.loop-epoch.epoch in
    let start = c.pile-pile.result.now in
    let room = room_for_epoch album w c.args.start.now t c.loop-epoch.report
    c.loop-epoch.invariant c.loop-epoch-test.true c.requires.limit in
    let epoch = c.in_ok-closed.ensures.epoch w start c.in_ok-next.ensures.closed in
    let drops = epoch_drops album w start t c.in_ok-closed.closed c.in_ok-closed.sheet epoch in
    omega (arith, room.0, drops)

pub loop-epoch-preserved : goal.loop-epoch-preserved
loop-epoch-preserved g c =
    let w = c.args.wish in
    let album = c.args.album.now in
    let t = c.loop-epoch.epoch in
    let closed = c.in_ok-closed.closed in
    let sheet = c.in_ok-closed.sheet in
    let start = c.pile-pile.result.now in
    let pile : start ≡ c.loop-epoch.report.total.settled.pile =
    c.pile-pile.ensures.value ∙ ap (λ (r : RecordView). r.settled.pile) c.total.ensures in
    let epoch = subst (λ (x : PileView). IsEpoch album w x t closed sheet) pile
    (c.in_ok-closed.ensures.epoch w start c.in_ok-next.ensures.closed) in
    report_more album w c.args.start.now t c.loop-epoch.report c.add.new.self closed sheet c.loop-epoch.invariant epoch
    c.in_ok-add.ensures.grown

pub returns : goal.returns
returns g c =
    let some = c.requires.plan.some_epochs in
    let past = c.loop-epoch-test.false in
    let all : c.loop-epoch.epoch ≡ c.args.wish.epochs = omega (arith, some, past, c.loop-epoch.auto.epoch-end) in
    record {
      report = subst (λ n. IsReportOf c.args.album.now c.args.wish c.args.start.now n c.loop-epoch.report)
          all c.loop-epoch.invariant;
      faults = tt;
    }
