use Rattle.sand_lab.proofs.Common.{ap, ◌∙◌, Some, RecordView}
use Rattle.sand_lab.specs.Albums.{PictureView}
use Rattle.sand_lab.proofs.epochs.ClosedEpoch.publish.Goals as goal

pub returns-clause-epoch : goal.returns-clause-epoch
returns-clause-epoch c = λ wish start epoch. record {
  closed = epoch.closed;
  place = c.in_ok-note.ensures.place;
  shown = c.in_ok-note.ensures.shown ∙ ap (λ (p : PictureView). Some p) (c.new.ensures
      ∙ ap (λ (r : RecordView). record { epoch = c.args.epoch; closed = r }) epoch.shown);
}
