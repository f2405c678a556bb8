-- The sites noted are those that the list has between the start and the place (`note_one`).
use Rattle.sand_group.proofs.Common.{◌∙◌, arith, refl, slice_index, length-set}
use Rattle.sand_group.proofs.BurningSteps.{note_one}
use Rattle.sand_group.proofs.burning_steps.note_step.Goals as goal

pub loop-place-preserved : goal.loop-place-preserved
loop-place-preserved c =
    let old = c.loop-place.invariant in
    let site = slice_index c.args.burnt.now c.loop-place.place in
    let one = note_one c.args.burnt.now c.loop-place.times.items c.args.times.now.items c.args.start c.loop-place.place
    c.args.step site c.loop-place-test.true refl
    (omega (arith, c.requires.inside c.loop-place.place 0 c.loop-place-test.true, old.len)) old.more old.noted old.kept in
    record {
      len = length-set c.loop-place.times.items site c.args.step ∙ old.len;
      more = one.0;
      noted = one.1;
      kept = one.2;
    }
