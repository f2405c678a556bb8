use Rattle.sand_settle.proofs.Common.{ℕ, ◌≡◌, ◌+◌, ◌∙◌, ◌++◌, sym, ap, subst, arith, length, take, drop, sum, most_grains_on, Result, IfOk, OnOk, take_at, PileView, Avalanche, IsAvalanche, DrivenView, grid_of_driven, topplings_between, Drops, IsPaid, driven_view, SettledView, IsSomeSettledRecord}
use Rattle.sand_settle.specs.declared.faults.OneFault.{OneFault}
use Rattle.sand_settle.proofs.OneRecord.{same_parts}
use Rattle.sand_settle.proofs.Drops.{grains_after, paid_after, some_record_after, view_after}
use Rattle.sand_settle.proofs.NearSites.{heights_far, counts_far}
use Rattle.sand_settle.proofs.one_pile.drop_grain.Goals.{After-unwrap, After-update_odometer, After-lost}
use Rattle.sand_settle.proofs.one_pile.drop_grain.Goals as goal

dropped : (c : After-unwrap)
    → Drops (driven_view c.args.settled c.args.drop.0.number) c.args.drop.1 c.drop_at.new.self
dropped c = subst (λ (v : DrivenView). Drops v c.args.drop.1 c.drop_at.new.self) c.requires.same
    (subst (λ (r : Result (ℕ × Avalanche) OneFault). OnOk r (Drops c.args.drop.0 c.args.drop.1 c.drop_at.new.self))
    c.unwrap.ensures c.drop_at.ensures.drops)

fell : (c : After-unwrap) → IsAvalanche c.args.settled.pile.grid c.args.drop.1
    (topplings_between c.args.settled c.drop_at.new.self.settled) c.unwrap.result.1
fell c = subst (λ (v : DrivenView).
    IsAvalanche (grid_of_driven v) c.args.drop.1 (topplings_between v.settled c.drop_at.new.self.settled)
    c.unwrap.result.1) c.requires.same
    (subst (λ (r : Result (ℕ × Avalanche) OneFault). IfOk r (λ q. IsAvalanche (grid_of_driven c.args.drop.0)
    c.args.drop.1 (topplings_between c.args.drop.0.settled c.drop_at.new.self.settled) q.1))
    c.unwrap.ensures c.drop_at.ensures.avalanche)

paid : (c : After-unwrap) → IsPaid c.drop_at.new.self.settled
paid c = let drop = dropped c in paid_after c.requires.paid drop.inside drop.room drop.settled

-- the grains that are left
grains : (c : After-unwrap)
    → c.grains-grains.result + 1 ≡ sum c.drop_at.new.self.settled.pile.heights + c.unwrap.result.1.lost
grains c =
    let drop = dropped c in
    omega (
      arith,
      grains_after c.requires.paid drop.inside drop.settled,
      drop.settled.more_lost,
      (fell c).all_lost,
      c.grains-grains.ensures.value,
      ap (λ (r : SettledView). sum r.pile.heights) c.settled.view_is,
    )

pub update_heights-requires-clause-far : goal.update_heights-requires-clause-far
update_heights-requires-clause-far c =
    let at = (goal.at.update_heights-requires-clause-far c).After-unwrap in
    let drop = dropped at in
    rw (
      drop.settled.grid,
      c.deref_mut.ensures.value ∙ c.into_parts-shape.ensures.heights
          ∙ ap (λ (r : SettledView). r.pile.heights) c.settled.view_is,
    ) (heights_far drop.inside drop.settled (fell at))

pub update_odometer-requires-clause-far : goal.update_odometer-requires-clause-far
update_odometer-requires-clause-far c =
    let at = (goal.at.update_odometer-requires-clause-far c).After-unwrap in
    let drop = dropped at in
    rw (drop.settled.grid, c.deref_mut-2.ensures.value ∙ ap (λ (r : SettledView). r.odometer) c.settled.view_is)
    (counts_far drop.inside drop.settled (fell at))

-- the vectors hold the lists that were brought up to date
heights_are : (c : After-update_odometer) → take c.into_parts-shape.result.1.len (c.update_heights.new.heights
    ++ drop (length c.update_heights.new.heights) c.into_parts-shape.result.1.items)
    ≡ c.drop_at.new.self.settled.pile.heights
heights_are c = take_at _ _ _ (omega (arith, c.update_heights.auto.heights, c.deref_mut.ensures.len))
    ∙ c.update_heights.ensures

odometer_is : (c : After-update_odometer) → take c.settled.inside.odometer.len (c.update_odometer.new.odometer
    ++ drop (length c.update_odometer.new.odometer) c.settled.inside.odometer.items)
    ≡ c.drop_at.new.self.settled.odometer
odometer_is c = take_at _ _ _ (omega (arith, c.update_odometer.auto.odometer, c.deref_mut-2.ensures.len))
    ∙ c.update_odometer.ensures

pub overflow_sub-grains : goal.overflow_sub-grains
overflow_sub-grains c = let left = grains (goal.at.overflow_sub-grains c).After-unwrap in omega arith

pub from_counted-requires-clause-limit : goal.from_counted-requires-clause-limit
from_counted-requires-clause-limit c =
    let at = goal.at.from_counted-requires-clause-limit c in
    let limit = ap most_grains_on (c.into_parts-shape.ensures.shape
    ∙ ap (λ (r : SettledView). r.pile.grid) c.settled.view_is ∙ sym (dropped at.After-unwrap).settled.grid) in
    rw (heights_are at.After-update_odometer) (omega (arith, (paid at.After-unwrap).limit))

pub from_counted-requires-clause-counted : goal.from_counted-requires-clause-counted
from_counted-requires-clause-counted c =
    let at = goal.at.from_counted-requires-clause-counted c in
    rw (heights_are at.After-update_odometer) (let left = grains at.After-unwrap in omega arith)

-- the new record is that of the driven pile
same : (c : After-lost) → c.drop_at.new.self.settled ≡ record {
  pile = c.from_counted.result;
  odometer = take c.settled.inside.odometer.len (c.update_odometer.new.odometer
      ++ drop (length c.update_odometer.new.odometer) c.settled.inside.odometer.items);
  topplings = c.topplings.result;
  lost = c.lost.result;
}
same c =
    let at = goal.at.After-lost c in
    sym (same_parts
    (ap (λ (p : PileView). p.grid) c.from_counted.ensures ∙ c.into_parts-shape.ensures.shape
    ∙ ap (λ (r : SettledView). r.pile.grid) c.settled.view_is ∙ sym (dropped at.After-unwrap).settled.grid)
    (ap (λ (p : PileView). p.heights) c.from_counted.ensures ∙ heights_are at.After-update_odometer)
    (odometer_is at.After-update_odometer) c.topplings.ensures c.lost.ensures)

pub invariant_of-record : goal.invariant_of-record
invariant_of-record c =
    let at = goal.at.invariant_of-record c in
    subst IsSomeSettledRecord (same at.After-lost) (some_record_after
    (subst IsSomeSettledRecord c.settled.view_is c.settled.invariant) (dropped at.After-unwrap).settled)

pub returns-clause-same : goal.returns-clause-same
returns-clause-same c =
    let at = goal.at.returns-clause-same c in view_after c.requires.paid (dropped at.After-unwrap) (same at.After-lost)

pub returns-clause-avalanche : goal.returns-clause-avalanche
returns-clause-avalanche c =
    let at = goal.at.returns-clause-avalanche c in
    subst (λ (q : SettledView). IsAvalanche c.args.settled.pile.grid c.args.drop.1 (topplings_between c.args.settled q)
    c.unwrap.result.1) (same at.After-lost) (fell at.After-unwrap)
