-- What topplings empty is equivalent to all 0 (`emptied_is_none`), and what burns is recurrent: so it is the identity.
use Rattle.sand_group.proofs.Common.{ap, arith, get_or, PileView}
use Rattle.sand_group.proofs.EmptiedIsIdentity.{emptied_is_none}
use Rattle.sand_group.proofs.OperationsOnHeights.{few_grains}
use Rattle.sand_group.proofs.neutral.shown_identity.Goals as goal

pub from_vec-pile-requires-clause-limit : goal.from_vec-pile-requires-clause-limit
from_vec-pile-requires-clause-limit c =
    let low = rw c.in-Some-2.is at c.in_ok-heights.ensures.low in
    let each = rw c.in-Some-2.is at c.in_ok-heights.ensures.len in
    omega (
      arith,
      few_grains c.args.shape c.in-Some-2.heights.items c.sites.ensures.sides each
          (λ k d l. omega (arith, low k d l)),
    )

pub returns-in-Ok-Recurrent-clause-identity : goal.returns-in-Ok-Recurrent-clause-identity
returns-in-Ok-Recurrent-clause-identity c =
    let emptied = rw (c.in-Some-2.is, c.deref.ensures.value) at c.in_ok-heights.ensures.emptied in
    let burned = rw c.in-Ok-Recurrent.field-0-is at c.in-Ok-Recurrent.ensures.burned in
    let grid = ap (λ (p : PileView). p.grid) c.from_vec-pile.ensures in
    record {
      recurrent = rw grid at burned.0;
      equivalent = rw c.from_vec-pile.ensures (emptied_is_none c.args.shape
          (λ i. get_or c.in-Some-2.heights.items i 0) (λ i. get_or c.in-Some.counts.items i 0) emptied);
    }
