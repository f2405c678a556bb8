-- No tile is listed twice, so the list has room for one more (`lists_length`). A set only grows (`le_or_l`), so a tile
-- joins the list once.
use Rattle.sand_fronts.proofs.Common.{arith, length, nat_tests, common_steps, le_or_l, lists_length, has_mark}
use Rattle.sand_fronts.proofs.marks.Marks.mark.Goals as goal

pub push_if-requires-clause-room : goal.push_if-requires-clause-room
push_if-requires-clause-room c = omega (
  arith,
  c.self.invariant.0,
  lists_length (length c.self.inside.words.items) (has_mark c.self.inside.words.items) c.self.inside.tiles.items
      c.self.invariant.1,
)

pub invariant_of-self : goal.invariant_of-self
invariant_of-self c =
    let grows = le_or_l c.index-before.result.now c.args.set in
    rw c.push_if.ensures (grind (arith, common_steps), grind (arith, nat_tests, common_steps))
