-- What is written so far are the waves of the sizes so far, and the next one takes a place of what was there (`write_more`).
use Rattle.sand_c.proofs.WaveLists.{write_more}
use Rattle.sand_c.proofs.waves.write_waves.Goals as goal

pub loop-wave-preserved : goal.loop-wave-preserved
loop-wave-preserved c =
    write_more c.args.number c.loop-wave.wave c.args.sizes.now c.args.waves.now c.loop-wave.waves c.loop-wave-test.true
    c.requires c.loop-wave.invariant
