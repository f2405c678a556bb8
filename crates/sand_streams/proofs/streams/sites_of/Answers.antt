use Rattle.std.proofs.Common.{rules}
use Rattle.sand_streams.proofs.streams.sites_of.Goals as goal

pub loop-preserved : goal.loop-preserved
loop-preserved c = search rules
