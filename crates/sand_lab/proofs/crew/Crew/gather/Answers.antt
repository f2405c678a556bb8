use Rattle.sand_lab.proofs.Common.{ℕ, sym, subst, Dropper, Observer, HasDroppedItsStream, HasReadItsTallies, HoldsReceipts, HoldsBand, HoldsNothing}
use Rattle.sand_lab.proofs.EachAtItsPlace.{each_all}
use Rattle.sand_lab.proofs.crew.Crew.gather.Goals as goal

pub gather_droppers-requires-clause-droppers : goal.gather_droppers-requires-clause-droppers
gather_droppers-requires-clause-droppers c =
    let s = c.args.pile.now in
    let has = c.requires.crew.worked in
    each_all (HasDroppedItsStream s c.requires.crew.wish c.requires.crew.epoch)
    (λ (d : Dropper). HoldsReceipts s d.pass) c.args.self.droppers.items has.droppers (λ i d h. h.pass)

pub gather_workers-requires-clause-workers : goal.gather_workers-requires-clause-workers
gather_workers-requires-clause-workers c i x at =
    let has = c.requires.crew.worked in
    subst (λ (n : ℕ). HoldsBand c.args.pile.now n i x) (sym has.all_workers) (has.workers i x at).pass

pub gather_observers-requires-clause-observers : goal.gather_observers-requires-clause-observers
gather_observers-requires-clause-observers c =
    let s = c.args.pile.now in
    let has = c.requires.crew.worked in
    each_all (HasReadItsTallies s) (λ (o : Observer). HoldsNothing s o.pass)
    c.args.self.observers.items has.observers (λ i o h. h.pass)
