-- The avalanches so far are those of the drops so far, and the next drop adds its own (`drops_push`).
use Rattle.sand_c.proofs.Common.{◌∙◌, ℕ, List, [], ◌∷◌, ◌++◌, subst, arith, take, get_or, length-set, take_more, take_more_set, DrivenView, HasAvalanche, IsAfter, append_assoc}
use Rattle.sand_settle.proofs.Drops.{drops_push}
use Rattle.sand_c.proofs.dropping.drop_all.Goals as goal

pub loop-next-preserved : goal.loop-next-preserved
loop-next-preserved c =
    let i : ℕ = c.loop-next.next in
    let site : ℕ = get_or c.args.drops.now i 0 in
    let v : DrivenView = c.loop-next.pile in let w : DrivenView = c.drop_grain.new.pile in
    let drops : List ℕ = take i c.args.drops.now in
    let more = take_more c.args.drops.now i 0 c.loop-next-test.true in
    let was = c.loop-next.invariant in
    let dropped = c.drop_grain.ensures in
    record {
      avalanches = rw (
        more,
        take_more_set c.loop-next.avalanches i c.drop_grain.result
            (omega (arith, c.loop-next-test.true, was.avalanche_each)),
      )
          (drops_push HasAvalanche c.args.pile.now v w drops (take i c.loop-next.avalanches) site c.drop_grain.result
          was.avalanches dropped.drops);
      after = λ start history first. rw more (subst (λ (l : List ℕ). IsAfter start l w) (append_assoc history drops (site ∷ []))
          (dropped.after start (history ++ drops) (was.after start history first)));
      grid = dropped.drops.drops.settled.grid ∙ was.grid;
      grains = omega (arith, dropped.drops.drops.grains, was.grains);
      avalanche_each = length-set c.loop-next.avalanches i c.drop_grain.result ∙ was.avalanche_each;
    }
