use Rattle.std.proofs.Common.{◌≡◌, ◌++◌, take, drop}
use Rattle.sand_c.specs.Waves.{waves_from}
use Rattle.sand_c.proofs.waves.write_waves.Given as goal

abbrev pub invariant-loop-wave : goal.invariant-loop-wave
invariant-loop-wave l = l.waves ≡ waves_from l.number 0 (take l.wave l.sizes) ++ drop l.wave l.initial.waves
