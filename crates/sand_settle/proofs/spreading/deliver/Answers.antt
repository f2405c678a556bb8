use Rattle.std.proofs.Common.{◌<◌, ◌+◌, arith, length, get_or}
use Rattle.sand_settle.proofs.SiteLists.{joins_one}
use Rattle.sand_settle.proofs.spreading.deliver.Goals as goal

pub returns-in-Some-clause-joins : goal.returns-in-Some-clause-joins
returns-in-Some-clause-joins c =
    let inside : c.in-Some.site < length c.args.heights.now = rw c.in-Some.is at c.requires.inside in
    joins_one c.args.heights.now c.args.list.now _ c.in-Some.site
    (get_or c.args.heights.now c.in-Some.site 0 + c.args.times) inside (omega arith) c.push_if.ensures
