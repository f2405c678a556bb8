use Rattle.sand_c.proofs.Common.{◌<◌, List, ℕ, sym, subst, sum}
use Rattle.sand_c.proofs.Chunks.{one_over, of_none}
use Rattle.sand_c.proofs.settling.are_within.Goals as goal

pub returns-then-is_none : goal.returns-then-is_none
returns-then-is_none c =
    let over : c.args.limit < sum c.heights_at.result.now =
    of_none c.grains_of.result _ c.if-is_none.ensures c.grains_of.ensures.over in
    sym (one_over c.args.limit c.args.sites c.args.heights.now c.args.count c.loop-pile.pile c.loop-pile-test.true
    (subst (λ (xs : List ℕ). c.args.limit < sum xs) c.heights_at.ensures.value over))
