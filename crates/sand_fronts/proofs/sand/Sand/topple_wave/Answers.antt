use Rattle.sand_fronts.proofs.Common.{rules, length, tiles, AreKept, tiles_of}
use Rattle.sand_fronts.proofs.sand.Sand.topple_wave.Goals as goal

pub returns-in-Open-clause-listed : goal.returns-in-Open-clause-listed
returns-in-Open-clause-listed c =
    let after = c.replace_with.new.dest in
    let kept : AreKept (tiles c.args.board.now.shape) after.list.items (length after.list.items) (tiles_of after) = search rules in
    kept.listed

pub returns-in-Cylinder-clause-listed : goal.returns-in-Cylinder-clause-listed
returns-in-Cylinder-clause-listed c =
    let after = c.replace_with-in-Cylinder.new.dest in
    let kept : AreKept (tiles c.args.board.now.shape) after.list.items (length after.list.items) (tiles_of after) = search rules in
    kept.listed
