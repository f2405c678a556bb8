-- Each height that is pushed has passed the checks at its site (`IsLeftAt`). If all sites pass, the counts are the
-- least: each site that has toppled burns at its turn, so no set of them is forbidden (`settled_if_left`).
use Rattle.std.proofs.Common.{◌∙◌, ℕ, ◌+◌, ◌≤◌, ap, arith, get_or}
use Rattle.sand_model.specs.Grid.{sites}
use Rattle.sand_certify.specs.Certificate.{IsLeftAt}
use Rattle.sand_certify.proofs.Pushed.{pushed}
use Rattle.sand_certify.proofs.TightIfBurning.{settled_if_left}
use Rattle.sand_certify.proofs.certificate.heights_left.Goals as goal

pub loop-site-preserved : goal.loop-site-preserved
loop-site-preserved c = record {
  made = c.push_reserved.ensures.len ∙ ap (λ (n : ℕ). n + 1) c.loop-site.invariant.made;
  room = c.push_reserved.ensures.capacity ∙ c.loop-site.invariant.room;
  left = pushed (IsLeftAt c.args.lattice.now (λ j. get_or c.args.start.now j 0)
      (λ j. get_or c.args.counts.now j 0) (λ j. get_or c.args.turns.now j 0))
      c.loop-site.heights.items c.in-Some.height c.loop-site.site
      c.push_reserved.ensures.items (omega (arith, c.loop-site.invariant.made))
      c.loop-site.invariant.left c.in-Some.ensures;
}

pub returns-clause-settled : goal.returns-clause-settled
returns-clause-settled c =
    let all : sites c.args.lattice.now ≤ c.loop-site.site =
    omega (arith, c.sites-sites.ensures.value, ap sites c.shape.ensures.value) in
    let left = c.loop-site.invariant.left in
    settled_if_left c.args.lattice.now _ _ _ (λ j. get_or c.args.turns.now j 0)
    (record { each = λ i l. (left i (omega arith)).shown }) (record { balance = λ i l. (left i (omega arith)).balance })
