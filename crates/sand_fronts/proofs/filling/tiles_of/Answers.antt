-- Past the end of the list a tile reads as blank, and there is no site in it (`no_tile_filled`).
use Rattle.sand_fronts.proofs.Common.{rules, arith, IsFilled}
use Rattle.sand_fronts.proofs.Filled.{entry_more, entry_each, no_tile_filled}
use Rattle.sand_fronts.proofs.filling.tiles_of.Goals as goal

pub loop-k-preserved : goal.loop-k-preserved
loop-k-preserved g c = record {
  made = search rules;
  room = search rules;
  each = entry_more _ (IsFilled c.args.shape _) c.loop-k.all.items _ c.tile_of.result c.loop-k.k
      c.push_reserved.ensures.items (search rules) c.tile_of.ensures c.loop-k.invariant.each;
}

pub returns-clause-each : goal.returns-clause-each
returns-clause-each g c =
    entry_each _ (IsFilled c.args.shape _) c.loop-k.all.items c.loop-k.k (search rules) c.loop-k.invariant.each
    (λ k past. no_tile_filled c.args.shape _ k (omega (arith, past, c.tiles-n.ensures.value, c.loop-k-test.false)))
