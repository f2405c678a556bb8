use Rattle.sand_lab.proofs.Common.{IsDropper, IsWorker, IsObserver, CanDrop, CanSweep, CanTally}
use Rattle.sand_lab.proofs.EachAtItsPlace.{each_all}
use Rattle.sand_lab.proofs.CrewHasWorked.{can_drop, can_sweep, can_tally, worked}
use Rattle.sand_lab.proofs.crew.Crew.work.Goals as goal

pub all_work-requires-clause-droppers : goal.all_work-requires-clause-droppers
all_work-requires-clause-droppers g c κs within =
    let s = c.args.pile.now in
    let w = c.args.wish in
    let t = c.requires.0 in
    each_all (IsDropper s w t) (CanDrop s w.drops) c.args.self.now.droppers.items c.requires.1.droppers (can_drop s w t)

pub all_work-requires-clause-workers : goal.all_work-requires-clause-workers
all_work-requires-clause-workers g c κs within =
    let s = c.args.pile.now in
    let n = c.args.wish.workers in
    each_all (IsWorker s n) (CanSweep s) c.args.self.now.workers.items c.requires.1.workers (can_sweep s n)

pub all_work-requires-clause-observers : goal.all_work-requires-clause-observers
all_work-requires-clause-observers g c κs within =
    let s = c.args.pile.now in
    each_all (IsObserver s) (CanTally s 16) c.args.self.now.observers.items c.requires.1.observers (can_tally s)

pub returns : goal.returns
returns g c = record {
  worked = λ t is. worked c.args.pile.now c.args.wish t c.args.self.now c.all_work.new.self is
      c.all_work.ensures.droppers c.all_work.ensures.workers c.all_work.ensures.observers;
}
