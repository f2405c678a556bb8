use Rattle.sand_text.specs.Pictures.{lines_text}
use Rattle.sand_text.proofs.Chunks.{further, done}
use Rattle.sand_text.proofs.pictures.pgm_text.Goals as goal

pub loop-row-preserved : goal.loop-row-preserved
loop-row-preserved c = further lines_text c.args.pile.now.grid.width _ _ c.in-Some.row _ _ _
    c.shape-shape.ensures.pile.grid.some_width c.in-Some.ensures.steps c.in_ok-push_lines.ensures c.loop-row.invariant

pub returns : goal.returns
returns c = done lines_text c.args.pile.now.grid.width _ _ _ _ c.in-None.ensures.steps c.loop-row.invariant
