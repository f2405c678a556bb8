-- A tile of the border may have no tile at a number that is found for it. A site's tile is in neither the first nor
-- the last row of tiles, so all four of its neighbours are tiles (`board_of`).
use Rattle.sand_fronts.proofs.Common.{rules, ◌≡◌, length, arith, IsBeside}
use Rattle.sand_fronts.proofs.Boards.{board_of}
use Rattle.sand_fronts.proofs.Filled.{entry_more}
use Rattle.sand_fronts.proofs.sides.all_sides.Goals as goal

pub loop-k-preserved : goal.loop-k-preserved
loop-k-preserved c = record {
  made = search rules;
  room = search rules;
  each = entry_more _ (IsBeside c.args.shape) c.loop-k.all.items _ c.sides_of.result c.loop-k.k
      c.push_reserved.ensures.items (search rules) c.sides_of.ensures c.loop-k.invariant.each;
}

pub returns : goal.returns
returns c =
    let long : length c.loop-k.all.items ≡ c.tiles-n.result = search rules in
    record {
      board = board_of c.args.shape c.loop-k.all.items c.tiles-n.ensures.sides (omega (arith, c.tiles-n.ensures.value))
          (omega (arith, c.tiles-n.ensures.value, c.tiles-n.ensures.limit))
          (λ k l. c.loop-k.invariant.each k (omega (arith, c.tiles-n.ensures.value, c.loop-k-test.false)));
    }
