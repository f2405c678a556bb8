-- Past the end of the list a tile reads as blank, and there is no site in it (`no_tile_on`).
use Rattle.sand_fronts.proofs.Common.{ℕ, rules, ◌≡◌, ◌<◌, arith, missing, Tile, number, bit_none, on_tiles}
use Rattle.sand_fronts.proofs.Gained.{blank}
use Rattle.sand_fronts.proofs.Filled.{entry_more, entry_each, no_tile_on}
use Rattle.sand_fronts.proofs.board.all_outside.Goals as goal

pub loop-k-preserved : goal.loop-k-preserved
loop-k-preserved c = record {
  made = search rules;
  room = search rules;
  each = entry_more blank (λ k (t : Tile). (p : ℕ) → p < 64 → number t p ≡ on_tiles c.args.shape (missing c.args.shape) k p)
      c.loop-k.all.items _ c.outside_in.result c.loop-k.k c.push_reserved.ensures.items (search rules) c.outside_in.ensures
      c.loop-k.invariant.each;
}

pub returns-clause-each : goal.returns-clause-each
returns-clause-each c =
    entry_each blank (λ k (t : Tile). (p : ℕ) → p < 64 → number t p ≡ on_tiles c.args.shape (missing c.args.shape) k p)
    c.loop-k.all.items c.loop-k.k (search rules) c.loop-k.invariant.each
    (λ k past p low.
    let none = bit_none p in
    let off = no_tile_on c.args.shape (missing c.args.shape) k p low
    (omega (arith, past, c.tiles-n.ensures.value, c.loop-k-test.false)) in
    omega arith)
