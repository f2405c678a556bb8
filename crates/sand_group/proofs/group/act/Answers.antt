-- A recurrent pile with more grains settles to a recurrent one (`sum_settles`).
use Rattle.sand_group.proofs.Common.{◌+◌, ◌<◌, ◌∙◌, sites, height_of, one_at, SettlesTo}
use Rattle.sand_group.proofs.OperationsOnHeights.{grain_settles, recurrent_there, sum_settles}
use Rattle.sand_group.proofs.group.act.Goals.{In_ok-settled}
use Rattle.sand_group.proofs.group.act.Goals as goal

settles : (c : In_ok-settled) → SettlesTo c.c.inside.pile.grid
    (λ i. height_of c.c.inside.pile i + one_at c.args.site i) c.in_ok-settled.field-0
settles c =
    let inside : c.args.site < sites c.c.inside.pile.grid = rw c.c.view_is c.requires in
    grain_settles c.shape-shape.result c.c.inside.pile c.in_ok-settled.field-0
    c.in_ok-heights.heights.items c.args.site c.index_mut.result.now c.shape-shape.ensures.value
    c.shape-shape.ensures.pile (c.in_ok-heights.ensures.items ∙ c.heights.ensures.value)
    inside c.index_mut.ensures.value c.in_ok-settled.ensures.settled

pub invariant_of-result : goal.invariant_of-result
invariant_of-result c =
    let done = settles (goal.at.invariant_of-result c).In_ok-settled in
    recurrent_there done (sum_settles _ c.c.invariant done).recurrent

pub returns-clause-settled : goal.returns-clause-settled
returns-clause-settled c = rw (← c.c.view_is) (settles (goal.at.returns-clause-settled c).In_ok-settled)

pub returns-clause-recurrent : goal.returns-clause-recurrent
returns-clause-recurrent c = invariant_of-result c
