use Rattle.sand_commands.proofs.Common.{◌≡◌, ◌+◌, [], drop, sites, PileView, grid_of_driven, IsAfter, stream_sites, AreAdded}
use Rattle.sand_commands.proofs.drawn_drops.drop_drawn.Given as goal

abbrev pub invariant-loop-read : goal.invariant-loop-read
invariant-loop-read g l = record {
  rows : AreAdded l.fn.part l.fn.draw.from l.initial.pile
      (drop l.fn.draw.from (stream_sites (sites (grid_of_driven l.initial.pile))
      l.fn.draw.seed l.fn.draw.stream (l.fn.draw.from + l.read))) l.pile
      (g.W.Write.contents l.initial.writer) (g.W.Write.contents l.writer) l.initial.blocks l.blocks;
  after : (start : PileView) → IsAfter start [] l.initial.pile
      → IsAfter start (drop l.fn.draw.from (stream_sites (sites (grid_of_driven l.initial.pile))
      l.fn.draw.seed l.fn.draw.stream (l.fn.draw.from + l.read))) l.pile;
  reader : l.reader ≡ record {
    sites = sites (grid_of_driven l.initial.pile);
    seed = l.fn.draw.seed;
    stream = l.fn.draw.stream;
    read = l.fn.draw.from + l.read;
  };
  grid : grid_of_driven l.pile ≡ grid_of_driven l.initial.pile;
  grains : l.pile.grains ≡ l.initial.pile.grains + l.read;
}
