use Rattle.sand_fronts.proofs.Common.{ℕ, Bool, true, false, rules, ◌≡◌, ◌<◌, number, tile_at}
use Rattle.sand_fronts.proofs.Filled.{entry_more, entry_each}
use Rattle.sand_fronts.proofs.board.all_lossless.Goals as goal

pub loop-k-preserved : goal.loop-k-preserved
loop-k-preserved c = record {
  made = search rules;
  room = search rules;
  each = entry_more false
      (λ k (b : Bool). b ≡ true → (p : ℕ) → p < 64 → number (tile_at c.args.outside.now k) p ≡ 0)
      c.loop-k.all.items _ c.has_none.result c.loop-k.k c.push_reserved.ensures.items (search rules) c.has_none.ensures
      c.loop-k.invariant.each;
}

pub returns-clause-each : goal.returns-clause-each
returns-clause-each c = entry_each false
    (λ k (b : Bool). b ≡ true → (p : ℕ) → p < 64 → number (tile_at c.args.outside.now k) p ≡ 0)
    c.loop-k.all.items c.loop-k.k (search rules) c.loop-k.invariant.each (λ k past no. absurd (cc))
