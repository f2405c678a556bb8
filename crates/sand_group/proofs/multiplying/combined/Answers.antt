-- No height is over 3, so none of the sums is over 3 * (n + m).
use Rattle.sand_group.proofs.Common.{rules, arith, ◌+◌, ◌*◌, ◌≤◌, slice_index}
use Rattle.std.proofs.Math.Nat.{mul-le-mul_left}
use Rattle.std.proofs.lemmas.List.Elements.{All-push}
use Rattle.sand_group.proofs.multiplying.combined.Goals as goal

pub loop-site-preserved : goal.loop-site-preserved
loop-site-preserved c =
    let site = c.loop-site.site in
    let inside = c.loop-site-test.true in
    let sum : c.args.n * slice_index c.args.a.now site + c.args.m * slice_index c.args.b.now site ≤ 3 * (c.args.n + c.args.m) =
    omega (
      arith,
      mul-le-mul_left c.args.n (c.requires.low_a site 0 inside),
      mul-le-mul_left c.args.m (c.requires.low_b site 0 (omega (arith, inside, c.requires.same_length))),
    ) in
    record {
      len = search rules;
      low = rw c.in_ok-push.ensures.items
          (All-push (λ h. h ≤ 3 * (c.args.n + c.args.m)) c.loop-site.heights.items _ c.loop-site.invariant.low sum);
      each = search rules;
    }
