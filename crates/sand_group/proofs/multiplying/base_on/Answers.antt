use Rattle.sand_group.proofs.Common.{arith, rules, ◌*◌, limit_has_room}
use Rattle.std.proofs.lemmas.Nat.{le-div}
use Rattle.sand_group.proofs.multiplying.base_on.Goals as goal

pub returns-clause-some : goal.returns-clause-some
returns-clause-some c =
    let room = limit_has_room c.args.shape c.sites.ensures.sides in
    le-div 3 c.grain_limit.result (6 * c.sites.result) (search rules)
    (omega (arith, room, c.sites.ensures.value, c.grain_limit.ensures.value))
