use Rattle.sand_text.proofs.Common.{◌≡◌, ◌-◌, ◌*◌, length, rows_text, sites_text}
use Rattle.sand_text.proofs.Growing.{GrowsUpTo}
use Rattle.sand_text.proofs.blocks.Blocks.push_heights.Given as goal

abbrev pub invariant-rows : goal.invariant-rows
invariant-rows g l = record {
  grown : GrowsUpTo (g.W.Write.contents l.initial.writer) (g.W.Write.contents l.writer) l.initial.self l.self
      (rows_text (l.shape.height - l.counter) l.shape.width l.rest) (sites_text l.pile.grid l.pile.heights);
  left : length l.rest ≡ (l.shape.height - l.counter) * l.shape.width;
}
