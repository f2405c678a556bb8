use Rattle.sand_commands.proofs.Common.{◌+◌, ◌<◌, ap, arith, sum, Some, most_grains_on, err_from_is_err_and, IsDropsFault, IsDropsText}
use Rattle.sand_commands.proofs.DrawnText.{ArePushed, all_taken, end_fails, last_fails, rows_fail}
use Rattle.sand_commands.proofs.Drawing.{overfull, unread}
use Rattle.sand_commands.proofs.Endings.{found_first}
use Rattle.sand_commands.proofs.drawn_drops.drawn_drops.Goals.{In_ok-dropped}
use Rattle.sand_commands.proofs.drawn_drops.drawn_drops.Goals as goal

abbrev pushed : (g : _) (c : In_ok-dropped g)
    → ArePushed c.args.draw c.args.part c.args.input.now (g.W.Write.contents c.args.writer.now)
    (g.W.Write.contents c.drop_drawn-dropped.new.writer) c.drop_drawn-dropped.new.blocks
pushed g c = record {
  start = c.in_ok-start.start;
  first = c.in_ok-pile.pile;
  last = c.drop_drawn-dropped.new.pile;
  blocks = c.in_ok-blocks.blocks;
  read = c.in_ok-start.ensures;
  settled = c.in_ok-pile.ensures.settled;
  head = rw c.head_of.ensures at c.in_ok-blocks.ensures;
  added = c.in_ok-dropped.ensures.rows;
  after = c.in_ok-dropped.ensures.after;
}

pub returns-in_err-start-clause-fault : goal.returns-in_err-start-clause-fault
returns-in_err-start-clause-fault g c =
    let p = err_from_is_err_and c.from_residual.result c.from_residual.ensures.1 in
    rw (p.1, p.2)
    (found_first (IsDropsText (Some c.args.draw) c.args.part c.args.input.now)
    (IsDropsFault (Some c.args.draw) c.args.input.now) (g.W.Write.contents c.args.writer.now) _
    (unread c.args.draw c.args.input.now _ c.in_err-start.ensures))

pub returns-then-from-room-clause-fault : goal.returns-then-from-room-clause-fault
returns-then-from-room-clause-fault g c =
    let over : most_grains_on c.in_ok-start.start.grid < sum c.in_ok-start.start.heights + c.args.draw.count =
    omega (
      arith,
      c.if-from-room.true,
      c.from.ensures,
      c.grain_limit.ensures.value,
      ap most_grains_on c.shape.ensures.value,
      c.grains.ensures.value,
      c.grains.ensures.pile.limit,
    ) in
    found_first (IsDropsText (Some c.args.draw) c.args.part c.args.input.now)
    (IsDropsFault (Some c.args.draw) c.args.input.now) (g.W.Write.contents c.args.writer.now) _
    (overfull c.args.draw c.args.input.now c.in_ok-start.start c.in_ok-start.ensures over)

pub returns-in_err-blocks-clause-fault : goal.returns-in_err-blocks-clause-fault
returns-in_err-blocks-clause-fault g c =
    let p = err_from_is_err_and c.from_residual-in_err-blocks.result c.from_residual-in_err-blocks.ensures.1 in
    rw (p.1, p.2) (found_first (IsDropsText (Some c.args.draw) c.args.part c.args.input.now)
    (IsDropsFault (Some c.args.draw) c.args.input.now) (g.W.Write.contents c.args.writer.now) _ tt)

pub returns-in_err-dropped-clause-fault : goal.returns-in_err-dropped-clause-fault
returns-in_err-dropped-clause-fault g c =
    let p = err_from_is_err_and c.from_residual-in_err-dropped.result c.from_residual-in_err-dropped.ensures.1 in
    let is = rw c.head_of.ensures at c.in_ok-blocks.ensures in
    rw (p.1, p.2)
    (rows_fail c.args.draw c.args.part c.args.input.now c.in_ok-start.start c.in_ok-pile.pile
    (g.W.Write.contents c.args.writer.now) (g.W.Write.contents c.drop_drawn-dropped.new.writer) c.in_ok-blocks.blocks _
    c.in_ok-start.ensures c.in_ok-pile.ensures.settled is c.in_err-dropped.ensures.fault)

pub returns-in_err-ended-clause-fault : goal.returns-in_err-ended-clause-fault
returns-in_err-ended-clause-fault g c =
    let p = err_from_is_err_and c.from_residual-in_err-ended.result c.from_residual-in_err-ended.ensures.1 in
    rw (p.1, p.2)
    (end_fails c.args.draw c.args.part c.args.input.now _ _ _
    (pushed g (goal.at.returns-in_err-ended-clause-fault g c).In_ok-dropped)
    (g.W.Write.contents c.push_end-ended.new.writer) _ (rw c.finish-last.ensures.value at c.in_err-ended.ensures.err))

pub returns-in_err-finish-clause-fault : goal.returns-in_err-finish-clause-fault
returns-in_err-finish-clause-fault g c =
    let p = err_from_is_err_and c.from_residual-in_err-finish.result c.from_residual-in_err-finish.ensures.1 in
    rw (p.1, p.2)
    (last_fails c.args.draw c.args.part c.args.input.now _ _ _
    (pushed g (goal.at.returns-in_err-finish-clause-fault g c).In_ok-dropped)
    (g.W.Write.contents c.push_end-ended.new.writer) c.push_end-ended.new.blocks
    (rw c.finish-last.ensures.value at c.in_ok-ended.ensures.ok)
    (g.W.Write.contents c.finish.new.writer) _ c.in_err-finish.ensures.err)

pub returns-clause-done : goal.returns-clause-done
returns-clause-done g c =
    all_taken c.args.draw c.args.part c.args.input.now _ _ _
    (pushed g (goal.at.returns-clause-done g c).In_ok-dropped)
    (g.W.Write.contents c.push_end-ended.new.writer) c.push_end-ended.new.blocks
    (rw c.finish-last.ensures.value at c.in_ok-ended.ensures.ok)
    (g.W.Write.contents c.finish.new.writer) c.in_ok-finish.ensures.ok

pub drop_drawn-dropped-requires-clause-room : goal.drop_drawn-dropped-requires-clause-room
drop_drawn-dropped-requires-clause-room g c = omega (
  arith,
  c.if-from-room.false,
  c.from.ensures,
  c.grain_limit.ensures.value,
  ap most_grains_on c.shape.ensures.value,
  ap most_grains_on c.in_ok-pile.ensures.settled.settled.grid,
  c.in_ok-pile.ensures.settled.grains,
  c.grains.ensures.value,
)
