use Rattle.sand_fronts.proofs.Filled.{put_at_first, put_at_others}
use Rattle.sand_fronts.proofs.filling.put_first.Goals as goal

pub returns-clause-first : goal.returns-clause-first
returns-clause-first c = put_at_first c.args.set c.args.first c.requires

pub returns-clause-others : goal.returns-clause-others
returns-clause-others c p low = put_at_others c.args.set c.args.first p c.requires low
