-- What the drop does to the tiles it does to the record: heights, odometer and sums (`drops_on`). All topplings are
-- paid for by the grains (`IsPaid`), and these are within the limit, so no sum overflows.
use Rattle.sand_settle.proofs.Common.{◌<◌, ◌+◌, ap, arith, subst, sites, most_grains_on, IsAvalanche, DrivenView, grid_of_driven, driven_view, topplings_between, driven_record}
use Rattle.sand_settle.specs.Waves.{HasDroppedInWaves}
use Rattle.sand_settle.proofs.Drops.{paid_few, drops_from, after_drop}
use Rattle.sand_settle.proofs.Driven.{DropsOn, drops_on, few_counts, waves_on}
use Rattle.sand_settle.proofs.driven_pile.DrivenPile.drop_with_waves.Goals.{After-drop_with_waves-waves}
use Rattle.sand_settle.proofs.driven_pile.DrivenPile.drop_with_waves.Goals as goal

inside : (c : After-drop_with_waves-waves) → c.args.site < sites c.self.inside.start.pile.grid
inside c = let same = ap (λ (v : DrivenView). sites (grid_of_driven v)) c.self.view_is in omega (arith, c.requires)

room : (c : After-drop_with_waves-waves) → c.self.inside.grains < most_grains_on c.self.inside.start.pile.grid
room c =
    let limit = ap (λ (v : DrivenView). most_grains_on (grid_of_driven v)) c.self.view_is in
    omega (
      arith,
      c.if-self-limit.false,
      c.limit.ensures.value,
      c.self.invariant.all_grains,
      c.self.invariant.paid.limit,
    )

dropped : (c : After-drop_with_waves-waves)
    → DropsOn c.self.inside.start c.self.inside.tiles c.drop_with_waves-waves.new.self c.args.site
    c.drop_with_waves-waves.result.0 c.self.inside.number c.self.inside.topplings c.self.inside.lost c.self.inside.grains
dropped c = drops_on c.self.invariant (inside c) (room c) c.drop_with_waves-waves.ensures.dropped

pub drop_with_waves-waves-requires-clause-bound : goal.drop_with_waves-waves-requires-clause-bound
drop_with_waves-waves-requires-clause-bound c = λ j l. omega (arith, few_counts c.self.invariant j l)

pub overflow_add-self : goal.overflow_add-self
overflow_add-self c = omega (
  arith,
  c.self.invariant.all_grains,
  c.self.invariant.paid.limit,
  c.self.invariant.bound,
)

pub overflow_add-self-2 : goal.overflow_add-self-2
overflow_add-self-2 c =
    let paid = (dropped (goal.at.overflow_add-self-2 c).After-drop_with_waves-waves).driven.paid in
    omega (arith, paid_few paid)

pub overflow_add-self-3 : goal.overflow_add-self-3
overflow_add-self-3 c =
    let paid = (dropped (goal.at.overflow_add-self-3 c).After-drop_with_waves-waves).driven.paid in
    omega (arith, paid.limit, paid_few paid, c.self.invariant.paid.limit)

pub overflow_add-self-4 : goal.overflow_add-self-4
overflow_add-self-4 c = omega (arith, room (goal.at.overflow_add-self-4 c).After-drop_with_waves-waves)

pub invariant_of-self : goal.invariant_of-self
invariant_of-self c = (dropped (goal.at.invariant_of-self c).After-drop_with_waves-waves).driven

pub returns-clause-dropped : goal.returns-clause-dropped
returns-clause-dropped c =
    let at = (goal.at.returns-clause-dropped c).After-drop_with_waves-waves in
    let fell = (dropped at).avalanche in
    let drops = drops_from c.self.inside.number c.self.invariant.paid c.self.view_is (inside at)
    (omega (arith, room at, c.self.invariant.all_grains)) (dropped at).taken in
    record {
      number = ap (λ (v : DrivenView). v.number) c.self.view_is;
      drops = record {
        drops = drops;
        avalanche = subst (λ (v : DrivenView). IsAvalanche (grid_of_driven v) c.args.site (topplings_between v.settled
            (driven_record c.self.inside.start c.drop_with_waves-waves.new.self
            (c.self.inside.topplings + c.drop_with_waves-waves.result.0.size)
            (c.self.inside.lost + c.drop_with_waves-waves.result.0.lost)))
            c.drop_with_waves-waves.result.0) c.self.view_is fell;
      };
      after = λ start history after. after_drop start history c.args.site c.args.self.now _ drops after;
    }

pub returns-clause-waves : goal.returns-clause-waves
returns-clause-waves c =
    let at = (goal.at.returns-clause-waves c).After-drop_with_waves-waves in
    let waves = waves_on c.self.invariant (inside at) (dropped at) c.drop_with_waves-waves.ensures.waves in
    subst (λ (v : DrivenView). HasDroppedInWaves v c.args.site c.drop_with_waves-waves.result.1
    c.drop_with_waves-waves.result.0 c.args.sizes.now c.drop_with_waves-waves.new.sizes
    (driven_view (driven_record c.self.inside.start c.drop_with_waves-waves.new.self
    (c.self.inside.topplings + c.drop_with_waves-waves.result.0.size)
    (c.self.inside.lost + c.drop_with_waves-waves.result.0.lost)) (c.self.inside.number + 1))) c.self.view_is (record {
      waves = waves.waves;
      one_each = waves.one_each;
      few = waves.few;
      sum_of_sizes = waves.sum_of_sizes;
    })
