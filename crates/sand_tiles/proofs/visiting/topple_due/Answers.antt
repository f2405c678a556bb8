-- The argument is in `Rounds`: the flood must topple (`flood_of`), the round keeps the visit (`visit_goes_on`), and
-- the wave grows as a number (`wave_grows`). That it fits into 64 bits is needed for its complement.
use Rattle.sand_tiles.proofs.Common.{arith, bit_and, bit_or, and_le_r, or_lt}
use Rattle.sand_tiles.proofs.Rounds.{flood_of, visit_goes_on, wave_grows}
use Rattle.sand_tiles.proofs.visiting.topple_due.Goals as goal

pub returns : goal.returns
returns c t start ready visit =
    let u = c.args.tile.now in
    let w = c.topple_front-four.new.tile in
    let free = c.args.free in
    let four = c.topple_front-four.result in
    let three = bit_and (bit_and u.low u.high) free in
    let flood = bit_and three c.next_to.result in
    let flooded = flood_of u free c.next_to.result (λ p low. (c.next_to.ensures p low).0) in
    let few = and_le_r three c.next_to.result in
    let front = or_lt 64 u.due flood (omega arith) (omega arith) in
    let fits = or_lt 64 u.wave (bit_or u.due flood) (omega arith) front in (
      visit_goes_on t u w free start flood four ready visit flooded c.topple_front-four.ensures fits,
      wave_grows t u w free start flood four ready visit flooded (omega arith),
      fits,
    )
