use Rattle.std.proofs.Common.{replicate, ap, ◌∙◌}
use Rattle.sand_group.proofs.OperationsOnHeights.{surplus_is}
use Rattle.sand_group.proofs.group.surplus.Goals as goal

pub returns-clause-surplus : goal.returns-clause-surplus
returns-clause-surplus c =
    let full = c.in_ok-twice.ensures.items_if_clones_equal (λ y e. e) ∙ ap (λ n. replicate n 6) c.sites.ensures.value in
    surplus_is c.args.shape c.in_ok-twice.twice.items c.in_ok-six_less.field-0.items c.heights.result.now
    c.in_ok-rest.rest full c.in_ok-rest.ensures.settled c.heights.ensures.value c.in_ok-six_less.ensures.rests
