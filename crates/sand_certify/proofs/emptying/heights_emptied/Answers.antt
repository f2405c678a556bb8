-- Each height that is pushed has passed the check at its site (`IsEmptiedAt`). If all sites pass, the counts take each
-- of them to 0.
use Rattle.std.proofs.Common.{◌∙◌, ℕ, ◌+◌, ap, arith, get_or}
use Rattle.sand_certify.specs.Emptying.{IsEmptiedAt}
use Rattle.sand_certify.proofs.Pushed.{pushed}
use Rattle.sand_certify.proofs.emptying.heights_emptied.Goals as goal

pub loop-site-preserved : goal.loop-site-preserved
loop-site-preserved c = record {
  made = c.push_reserved.ensures.len ∙ ap (λ (n : ℕ). n + 1) c.loop-site.invariant.made;
  room = c.push_reserved.ensures.capacity ∙ c.loop-site.invariant.room;
  emptied = pushed (IsEmptiedAt c.args.lattice.now (λ j. get_or c.args.counts.now j 0))
      c.loop-site.heights.items c.in-Some.height c.loop-site.site c.push_reserved.ensures.items
      (omega (arith, c.loop-site.invariant.made)) c.loop-site.invariant.emptied c.in-Some.ensures;
}
