-- Past the end of the list a word reads as 0, and there is no site in its tile (`no_tile_on`).
use Rattle.sand_fronts.proofs.Common.{ℕ, rules, ◌≡◌, ◌∙◌, ◌<◌, arith, bit, bit_none, on_tiles}
use Rattle.sand_fronts.proofs.Filled.{entry_more, entry_each, no_tile_on}
use Rattle.sand_fronts.proofs.tiling.all_open.Goals as goal

pub loop-k-preserved : goal.loop-k-preserved
loop-k-preserved c = record {
  made = search rules;
  room = search rules;
  each = entry_more 0 (λ k w. (p : ℕ) → p < 64 → bit w p ≡ on_tiles c.args.shape (λ j. 1) k p)
      c.loop-k.free.items _ c.open_in.result c.loop-k.k c.push_reserved.ensures.items (search rules) c.open_in.ensures
      c.loop-k.invariant.each;
}

pub returns-clause-all : goal.returns-clause-all
returns-clause-all c =
    entry_each 0 (λ k w. (p : ℕ) → p < 64 → bit w p ≡ on_tiles c.args.shape (λ j. 1) k p)
    c.loop-k.free.items c.loop-k.k (search rules) c.loop-k.invariant.each
    (λ k past p low. bit_none p ∙ no_tile_on c.args.shape (λ j. 1) k p low
    (omega (arith, past, c.tiles-n.ensures.value, c.loop-k-test.false)))
