use Rattle.sand_lab.proofs.Common.{refl, Crew, HasSweptItsBand, CanSweep}
use Rattle.sand_lab.proofs.EachAtItsPlace.{each_all}
use Rattle.sand_lab.proofs.CrewHasWorked.{can_sweep_on, worked_on}
use Rattle.sand_lab.proofs.crew.Crew.sweep_on.Goals as goal

pub all_take_turns-requires-after_bounds : goal.all_take_turns-requires-after_bounds
all_take_turns-requires-after_bounds g c κs within =
    let s = c.args.pile.now in
    let w = c.requires.0 in
    let t = c.requires.1 in
    let has = c.loop.invariant w t c.requires.2 in
    each_all (HasSweptItsBand s w) (CanSweep s) c.loop.self.workers.items has.workers (can_sweep_on s w)

pub returns-then-is_calm : goal.returns-then-is_calm
returns-then-is_calm g c w t has =
    let swept : Crew = record c.loop.self { workers = c.all_take_turns.new.members } in
    worked_on c.args.pile.now w t 1 c.loop.self swept (c.loop.invariant w t has) c.all_take_turns.ensures refl refl

pub loop-preserved : goal.loop-preserved
loop-preserved g c w t has =
    let swept : Crew = record c.loop.self { workers = c.all_take_turns.new.members } in
    worked_on c.args.pile.now w t 1 c.loop.self swept (c.loop.invariant w t has) c.all_take_turns.ensures refl refl
