-- Of the four places of a site those that are not outside the grid are its neighbours (`counts_none`).
use Rattle.sand_group.proofs.Common.{ℕ, ◌≡◌, ◌+◌, length, ap, arith, length_push, sites, missing}
use Rattle.sand_certify.proofs.Pushed.{pushed}
use Rattle.sand_group.proofs.FireLeavesForbidden.{missing_at_most_four, counts_none}
use Rattle.sand_group.proofs.burning.neighbour_counts.Goals as goal

pub overflow_sub-missing : goal.overflow_sub-missing
overflow_sub-missing c = omega (arith, c.missing.ensures, missing_at_most_four c.args.lattice.now c.loop-site.site)

pub loop-site-preserved : goal.loop-site-preserved
loop-site-preserved c =
    let few = missing_at_most_four c.args.lattice.now c.loop-site.site in
    record {
      len =
          omega (arith, ap length c.in_ok-push.ensures.items, length_push {X = ℕ}, c.loop-site.invariant.len);
      counts = pushed (λ k n. n + missing c.args.lattice.now k ≡ 4) c.loop-site.counts.items _ c.loop-site.site
          c.in_ok-push.ensures.items c.loop-site.invariant.len c.loop-site.invariant.counts
          (omega (arith, c.missing.ensures));
    }

pub returns-clause-counts : goal.returns-clause-counts
returns-clause-counts c = counts_none c.args.lattice.now _
    (λ i l. c.loop-site.invariant.counts i (omega (arith, ap sites c.shape-shape.ensures.value)))
